-- The rule that stands in the tables of a program, with the grades of a grade list and the names of a text. Assumes nothing.
use Rattle.std.specs.Prelude.{ℕ, ◌+◌, List, [], ◌∷◌, ◌++◌, get_or, take, pos, slice_index_or}
use Rattle.std.specs.List.{between}
use Rattle.language.specs.declared.program.Binder.{Binder}
use Rattle.language.specs.declared.program.SimpleType.{SimpleType}
use Rattle.language.specs.declared.program.SimpleType.TheVariants.{Num, To}
use Rattle.language.specs.declared.program.Term.{Term}
use Rattle.language.specs.declared.program.Term.TheVariants.{Name, Number, Fn, Call, Add, Sub, Half, Less}
use Rattle.language.specs.declared.program.Node.{Node}
use Rattle.language.specs.declared.heads.Binary.TheVariants as binaries
use Rattle.language.specs.Tables.{no_binder}
use Rattle.language.specs.Reading.{Tables}
use Rattle.grammar.specs.Syntax.{Label, Ty, num, to, Tm, name, literal, fn, binary, half, less, Rule, input, run}

-- a table whose entries refer to older ones, each taken with what the older ones mean
abbrev pub grow : {X Y : Type 0} → (List Y → X → Y) → List Y → List X → List Y
grow step ys [] = ys
grow step ys (x ∷ xs) = grow step (ys ++ (step ys x ∷ [])) xs

-- the name of a binder stands in the text
abbrev pub label_of : List ℕ → Binder → Label
label_of text b = record { place = b.place; bytes = between b.place (b.place + b.len) text }

-- past the end of a table of terms, which no index reaches
abbrev pub no_term : {G : Type 0} → Tm G
no_term = literal 0 (pos 0)

-- `beyond` is what stands past the end of the grade list, which no index reaches
module _ {G : Type 0} (beyond : G) (text : List ℕ) (list : List G) where
  abbrev pub type_entry : List (Ty G) → SimpleType → Ty G
  type_entry ts Num = num
  type_entry ts (To g a b) = to (slice_index_or list g beyond) (slice_index_or ts a num) (slice_index_or ts b num)

  abbrev pub types_in : List SimpleType → List (Ty G)
  types_in types = grow type_entry [] types

  abbrev pub form : List Binder → List (Ty G) → List (Tm G) → ℕ → Term → Tm G
  form binders ts us p (Name k) = name p k
  form binders ts us p (Number z) = literal p z
  form binders ts us p (Fn b a t) = let n = get_or binders b no_binder in fn p (label_of text n) (slice_index_or list n.grade beyond) (slice_index_or ts a num) (slice_index_or us t no_term)
  form binders ts us p (Call a b) = binary p binaries.Call (slice_index_or us a no_term) (slice_index_or us b no_term)
  form binders ts us p (Add a b) = binary p binaries.Add (slice_index_or us a no_term) (slice_index_or us b no_term)
  form binders ts us p (Sub a b) = binary p binaries.Sub (slice_index_or us a no_term) (slice_index_or us b no_term)
  form binders ts us p (Half a) = half p (slice_index_or us a no_term)
  form binders ts us p (Less a b c d) = less p (slice_index_or us a no_term) (slice_index_or us b no_term) (slice_index_or us c no_term) (slice_index_or us d no_term)

  abbrev pub terms_in : List Binder → List SimpleType → List Node → List (Tm G)
  terms_in binders types nodes = grow (λ us n. form binders (types_in types) us n.place n.term) [] nodes

  -- the run term is the last
  abbrev pub last_of : List (Tm G) → Tm G
  last_of [] = no_term
  last_of (u ∷ []) = u
  last_of (u ∷ v ∷ us) = last_of (v ∷ us)

  abbrev pub inputs_in : List Binder → Rule G → Rule G
  inputs_in [] r = r
  inputs_in (b ∷ bs) r = input (label_of text b) (slice_index_or list b.grade beyond) (inputs_in bs r)

  -- the inputs are the first binders
  abbrev pub rule_in : Tables → Rule G
  rule_in t = inputs_in (take t.inputs t.binders) (run (last_of (terms_in t.binders t.types t.nodes)))
