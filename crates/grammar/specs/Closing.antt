-- How many open binders a term needs and how many functions it has, by its tree and by the tables. Assumes nothing.
use Rattle.std.specs.Prelude.{ℕ, suc, ◌+◌, ◌-◌, max, List, [], length, slice_index_or}
use Rattle.language.specs.declared.program.Term.{Term}
use Rattle.language.specs.declared.program.Term.TheVariants.{Name, Number, Fn, Call, Add, Sub, Half, Less}
use Rattle.language.specs.declared.program.Node.{Node}
use Rattle.grammar.specs.Syntax.{Tm, name, literal, fn, binary, half, less}
use Rattle.grammar.specs.Recovering.{grow}

-- how many binders have to be open around the term
abbrev pub needed : {G : Type 0} → Tm G → ℕ
needed (name p k) = suc k
needed (literal p z) = 0
needed (fn p n g a b) = needed b - 1
needed (binary p form a b) = max (needed a) (needed b)
needed (half p a) = needed a
needed (less p a b c d) = max (max (needed a) (needed b)) (max (needed c) (needed d))

-- how many functions stand inside one another
abbrev pub nesting : {G : Type 0} → Tm G → ℕ
nesting (name p k) = 0
nesting (literal p z) = 0
nesting (fn p n g a b) = suc (nesting b)
nesting (binary p form a b) = max (nesting a) (nesting b)
nesting (half p a) = nesting a
nesting (less p a b c d) = max (max (nesting a) (nesting b)) (max (nesting c) (nesting d))

-- how many functions there are
abbrev pub functions : {G : Type 0} → Tm G → ℕ
functions (name p k) = 0
functions (literal p z) = 0
functions (fn p n g a b) = suc (functions b)
functions (binary p form a b) = functions a + functions b
functions (half p a) = functions a
functions (less p a b c d) = (functions a + functions b) + (functions c + functions d)

-- the three numbers of a term
pub record Size : Type 0 where
  pub binders : ℕ
  pub levels : ℕ
  pub functions : ℕ

abbrev pub size : ℕ → ℕ → ℕ → Size
size b l f = record { binders = b; levels = l; functions = f }

abbrev pub size_of : {G : Type 0} → Tm G → Size
size_of u = size (needed u) (nesting u) (functions u)

-- past the end of a table of sizes, which no index reaches
abbrev pub no_size : Size
no_size = size 0 0 0

-- the size of a function with such a body, and of two parts
abbrev pub inside : Size → Size
inside s = size (s.binders - 1) (suc s.levels) (suc s.functions)

abbrev pub both : Size → Size → Size
both s t = size (max s.binders t.binders) (max s.levels t.levels) (s.functions + t.functions)

-- the size of a term by those of the older terms
abbrev pub size_entry : List Size → Term → Size
size_entry ss (Name k) = size (suc k) 0 0
size_entry ss (Number z) = no_size
size_entry ss (Fn b a t) = inside (slice_index_or ss t no_size)
size_entry ss (Call a b) = both (slice_index_or ss a no_size) (slice_index_or ss b no_size)
size_entry ss (Add a b) = both (slice_index_or ss a no_size) (slice_index_or ss b no_size)
size_entry ss (Sub a b) = both (slice_index_or ss a no_size) (slice_index_or ss b no_size)
size_entry ss (Half a) = slice_index_or ss a no_size
size_entry ss (Less a b c d) = both (both (slice_index_or ss a no_size) (slice_index_or ss b no_size)) (both (slice_index_or ss c no_size) (slice_index_or ss d no_size))

abbrev pub sizes_in : List Node → List Size
sizes_in nodes = grow (λ ss n. size_entry ss n.term) [] nodes

-- the run term is the last
abbrev pub run_size : List Node → Size
run_size nodes = slice_index_or (sizes_in nodes) (length nodes - 1) no_size
