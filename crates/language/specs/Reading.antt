-- Reading a rule: what its tables hold, or the first fault. Assumes nothing.
use Rattle.std.specs.Prelude.{ℕ, zero, suc, ◌+◌, ◌-◌, cond, ◌||◌, List, [], ◌∷◌, ◌++◌, length, take, drop, replicate, Some, None, Ok, Err, vec_items, Option, Result, ◌==◌, nat_le, nat_lt, slice_set}
use Rattle.std.specs.Borrow.{Bor}
use Rattle.tokens.specs.declared.refusal.Fault.{Fault}
use Rattle.tokens.specs.declared.refusal.Refusal.TheVariants.{ShortList, NoText, LongText, Unexpected, NotOpen, Limit}
use Rattle.tokens.specs.declared.keyword.Keyword.{Keyword}
use Rattle.tokens.specs.declared.keyword.Keyword.TheVariants as keywords
use Rattle.language.specs.declared.program.Binder.{Binder}
use Rattle.language.specs.declared.program.SimpleType.{SimpleType}
use Rattle.language.specs.declared.program.SimpleType.TheVariants.{Num, To}
use Rattle.language.specs.declared.program.Term.{Term}
use Rattle.language.specs.declared.program.Term.TheVariants.{Name, Number, Fn, Call, Add, Sub, Half, Less}
use Rattle.language.specs.declared.program.Node.{Node}
use Rattle.language.specs.declared.tables.Program.{Program}
use Rattle.language.specs.declared.heads.Binary.{Binary}
use Rattle.language.specs.declared.heads.Binary.TheVariants as binaries
use Rattle.language.specs.declared.heads.TermHead.{TermHead}
use Rattle.language.specs.declared.heads.TermHead.TheVariants as heads
use Rattle.language.specs.declared.heads.TypeHead.{TypeHead}
use Rattle.language.specs.declared.heads.TypeHead.TheVariants as type-heads
use Rattle.language.specs.declared.heads.RuleHead.{RuleHead}
use Rattle.language.specs.declared.heads.RuleHead.TheVariants as rule-heads
use Rattle.language.specs.declared.heads.Parsed.{Parsed}
use Rattle.language.specs.declared.reader.Bound as reader
use Rattle.tokens.specs.Keywords.{keyword_of}
use Rattle.language.specs.Scopes.{find}
use Rattle.tokens.specs.Tokens.{Lexeme, word, number, grade, end, fault, token_at}

-- the tables of a program: its binders, types and terms, the number of its inputs and grades, and the words counted
pub record Tables : Type 0 where
  pub binders : List Binder
  pub types : List SimpleType
  pub nodes : List Node
  pub inputs : ℕ
  pub grades : ℕ
  pub words : ℕ

abbrev pub tables : List Binder → List SimpleType → List Node → ℕ → ℕ → ℕ → Tables
tables bs ts ns i g w = record { binders = bs; types = ts; nodes = ns; inputs = i; grades = g; words = w }

abbrev pub no_tables : Tables
no_tables = tables [] [] [] 0 0 0

abbrev pub with_binder : Tables → Binder → Tables
with_binder s b = tables (s.binders ++ (b ∷ [])) s.types s.nodes s.inputs s.grades s.words

abbrev pub with_type : Tables → SimpleType → Tables
with_type s t = tables s.binders (s.types ++ (t ∷ [])) s.nodes s.inputs s.grades s.words

abbrev pub with_node : Tables → Node → Tables
with_node s n = tables s.binders s.types (s.nodes ++ (n ∷ [])) s.inputs s.grades s.words

-- one more input
abbrev pub with_input : Tables → Binder → Tables
with_input s b = tables (s.binders ++ (b ∷ [])) s.types s.nodes (s.inputs + 1) s.grades s.words

abbrev pub with_grade : Tables → Tables
with_grade s = tables s.binders s.types s.nodes s.inputs (s.grades + 1) s.words

abbrev pub with_word : Tables → Tables
with_word s = tables s.binders s.types s.nodes s.inputs s.grades (s.words + 1)

-- what stands in a program
abbrev pub tables_of : Program → Tables
tables_of p = tables (vec_items p.binders) (vec_items p.types) (vec_items p.nodes) p.inputs p.grades p.words

-- the tables and the grade list
pub record State (G : Type 0) : Type 0 where
  pub program : Tables
  pub list : List G

abbrev pub state : {G : Type 0} → Tables → List G → State G
state t l = record { program = t; list = l }

abbrev pub state_of : {G : Type 0} → Program → List G → State G
state_of p l = state (tables_of p) l

abbrev pub changed : {G : Type 0} → (Tables → Tables) → State G → State G
changed f s = state (f s.program) s.list

-- what was read, with the state after it, or the fault
abbrev pub Read : Type 0 → Type 0 → Type 0
Read G X = Result (X × State G) Fault

abbrev pub told : {X S : Type 0} → Result X Fault → S → Result (X × S) Fault
told (Ok x) s = Ok (x, s)
told (Err f) s = Err f

infixl 20 ◌then◌
abbrev pub ◌then◌ : {X Y : Type 0} → Result X Fault → (X → Result Y Fault) → Result Y Fault
◌then◌ (Ok x) k = k x
◌then◌ (Err f) k = Err f

-- a word is counted, at a depth of which so many levels are left
abbrev pub counted : ℕ → ℕ → Tables → Result (ℕ × Tables) Fault
counted depth place t = cond (depth == 0 || nat_le 512 t.words) (Err (fault Limit place)) (Ok (depth - 1, with_word t))

-- a grade takes the next place in the grade list
abbrev pub graded : {G : Type 0} → G → ℕ → State G → Read G ℕ
graded g place s = cond (nat_le 256 s.program.grades) (Err (fault Limit place)) (Ok (s.program.grades, state (with_grade s.program) (slice_set s.list s.program.grades g)))

-- a part that was read, with the place after it
abbrev pub parsed : {X : Type 0} → X → ℕ → Parsed X
parsed x n = record { value = x; next = n }

abbrev pub store_type : {G : Type 0} → SimpleType → ℕ → State G → Read G (Parsed ℕ)
store_type t next s = Ok (parsed (length s.program.types) next, changed (λ p. with_type p t) s)

abbrev pub store_term : {G : Type 0} → ℕ → Term → ℕ → State G → Read G (Parsed ℕ)
store_term place t next s = Ok (parsed (length s.program.nodes) next, changed (λ p. with_node p (record { term = t; place = place })) s)

-- `call`, `add` or `sub` with its two parts
abbrev pub binary : Binary → ℕ → ℕ → Term
binary binaries.Call a b = Call a b
binary binaries.Add a b = Add a b
binary binaries.Sub a b = Sub a b

-- a binder's name is a word that is none of the language's
abbrev pub unless_keyword : List ℕ → ℕ → Option Keyword → Result (List ℕ) Fault
unless_keyword w place None = Ok w
unless_keyword w place (Some k) = Err (fault Unexpected place)

abbrev pub name_of : {G : Type 0} → Lexeme G → ℕ → Result (List ℕ) Fault
name_of (word w) place = unless_keyword w place (keyword_of w)
name_of (number w z) place = Err (fault Unexpected place)
name_of (grade w g) place = Err (fault Unexpected place)
name_of end place = Err (fault Unexpected place)

abbrev pub named : Result (Bor (List ℕ)) Fault → Result (List ℕ) Fault
named (Ok w) = Ok w.now
named (Err f) = Err f

-- `num` or `to` begins a type
abbrev pub type_word : ℕ → Option Keyword → Result TypeHead Fault
type_word place None = Err (fault Unexpected place)
type_word place (Some keywords.Input) = Err (fault Unexpected place)
type_word place (Some keywords.Run) = Err (fault Unexpected place)
type_word place (Some keywords.Fn) = Err (fault Unexpected place)
type_word place (Some keywords.Call) = Err (fault Unexpected place)
type_word place (Some keywords.Add) = Err (fault Unexpected place)
type_word place (Some keywords.Sub) = Err (fault Unexpected place)
type_word place (Some keywords.Half) = Err (fault Unexpected place)
type_word place (Some keywords.Less) = Err (fault Unexpected place)
type_word place (Some keywords.Num) = Ok type-heads.Num
type_word place (Some keywords.To) = Ok type-heads.To

abbrev pub type_head : {G : Type 0} → Lexeme G → ℕ → Result TypeHead Fault
type_head (word w) place = type_word place (keyword_of w)
type_head (number w z) place = Err (fault Unexpected place)
type_head (grade w g) place = Err (fault Unexpected place)
type_head end place = Err (fault Unexpected place)

-- a name, a number or one of six words begins a term
abbrev pub open_name : ℕ → Option ℕ → Result TermHead Fault
open_name place None = Err (fault NotOpen place)
open_name place (Some k) = Ok (heads.Name k)

abbrev pub term_word : ℕ → List (List ℕ) → List ℕ → Option Keyword → Result TermHead Fault
term_word place scope w None = open_name place (find w scope)
term_word place scope w (Some keywords.Input) = Err (fault Unexpected place)
term_word place scope w (Some keywords.Run) = Err (fault Unexpected place)
term_word place scope w (Some keywords.Fn) = Ok heads.Fn
term_word place scope w (Some keywords.Call) = Ok (heads.Binary binaries.Call)
term_word place scope w (Some keywords.Add) = Ok (heads.Binary binaries.Add)
term_word place scope w (Some keywords.Sub) = Ok (heads.Binary binaries.Sub)
term_word place scope w (Some keywords.Half) = Ok heads.Half
term_word place scope w (Some keywords.Less) = Ok heads.Less
term_word place scope w (Some keywords.Num) = Err (fault Unexpected place)
term_word place scope w (Some keywords.To) = Err (fault Unexpected place)

abbrev pub term_head : {G : Type 0} → List (List ℕ) → Lexeme G → ℕ → Result TermHead Fault
term_head scope (word w) place = term_word place scope w (keyword_of w)
term_head scope (number w z) place = Ok (heads.Number z)
term_head scope (grade w g) place = Err (fault Unexpected place)
term_head scope end place = Err (fault Unexpected place)

-- `input` or `run`
abbrev pub rule_word : ℕ → Option Keyword → Result RuleHead Fault
rule_word place None = Err (fault Unexpected place)
rule_word place (Some keywords.Input) = Ok rule-heads.Input
rule_word place (Some keywords.Run) = Ok rule-heads.Run
rule_word place (Some keywords.Fn) = Err (fault Unexpected place)
rule_word place (Some keywords.Call) = Err (fault Unexpected place)
rule_word place (Some keywords.Add) = Err (fault Unexpected place)
rule_word place (Some keywords.Sub) = Err (fault Unexpected place)
rule_word place (Some keywords.Half) = Err (fault Unexpected place)
rule_word place (Some keywords.Less) = Err (fault Unexpected place)
rule_word place (Some keywords.Num) = Err (fault Unexpected place)
rule_word place (Some keywords.To) = Err (fault Unexpected place)

abbrev pub rule_head : {G : Type 0} → Lexeme G → ℕ → Result RuleHead Fault
rule_head (word w) place = rule_word place (keyword_of w)
rule_head (number w z) place = Err (fault Unexpected place)
rule_head (grade w g) place = Err (fault Unexpected place)
rule_head end place = Err (fault Unexpected place)

-- a grade that has to be there
abbrev pub grade_of : {G : Type 0} → Lexeme G → ℕ → Result G Fault
grade_of (word w) place = Err (fault Unexpected place)
grade_of (number w z) place = Err (fault Unexpected place)
grade_of (grade w g) place = Ok g
grade_of end place = Err (fault Unexpected place)

-- the rule is over
abbrev pub ended : {G : Type 0} → Lexeme G → ℕ → Result (Unit {0}) Fault
ended (word w) place = Err (fault Unexpected place)
ended (number w z) place = Err (fault Unexpected place)
ended (grade w g) place = Err (fault Unexpected place)
ended end place = Ok tt

-- a binder that was read: its name, what is stored of it, and the place after it
pub record Bound : Type 0 where
  pub name : List ℕ
  pub entry : Binder
  pub next : ℕ

abbrev pub bound : List ℕ → Binder → ℕ → Bound
bound w b n = record { name = w; entry = b; next = n }

abbrev pub bound_of : Result reader.Bound Fault → Result Bound Fault
bound_of (Ok b) = Ok (bound b.name.now b.binder b.next)
bound_of (Err f) = Err f

module _ {G : Type 0} (reading : List ℕ → Option (G × ℕ)) (text : List ℕ) where
  -- the token after a binder's name is its grade, or the binder is bare
  abbrev pub grade_or : G → ℕ → ℕ → Lexeme G → ℕ → ℕ → State G → Read G (Parsed ℕ)
  grade_or bare place behind (word w) at next s = graded bare place s then λ (i, s). Ok (parsed i behind, s)
  grade_or bare place behind (number w z) at next s = graded bare place s then λ (i, s). Ok (parsed i behind, s)
  grade_or bare place behind (grade w g) at next s = graded g at s then λ (i, s). Ok (parsed i next, s)
  grade_or bare place behind end at next s = graded bare place s then λ (i, s). Ok (parsed i behind, s)

  -- the grade of the binder whose name stands at `place` and ends at `behind`
  abbrev pub binder_grade : G → ℕ → ℕ → State G → Read G (Parsed ℕ)
  binder_grade bare place behind s = token_at reading text behind then λ u. grade_or bare place behind u.token u.place u.next s

  -- a binder: a name and a grade, which may be left out
  abbrev pub binder : G → ℕ → State G → Read G Bound
  binder bare at s =
      token_at reading text at then λ t.
      name_of t.token t.place then λ w.
      binder_grade bare t.place t.next s then λ (g, s).
      Ok (bound w (record { place = t.place; len = length w; grade = g.value }) g.next, s)

  -- the rest of a type, by a reader of its parts
  abbrev pub type_rest : (ℕ → State G → Read G (Parsed ℕ)) → TypeHead → ℕ → State G → Read G (Parsed ℕ)
  type_rest part type-heads.Num next s = store_type Num next s
  type_rest part type-heads.To next s =
      token_at reading text next then λ t.
      grade_of t.token t.place then λ g.
      graded g t.place s then λ (i, s).
      part t.next s then λ (a, s).
      part a.next s then λ (b, s).
      store_type (To i a.value b.value) b.next s

  abbrev pub type_by : (ℕ → State G → Read G (Parsed ℕ)) → ℕ → ℕ → State G → Read G (Parsed ℕ)
  type_by part depth at s =
      token_at reading text at then λ t.
      type_head t.token t.place then λ h.
      counted depth t.place s.program then λ (_, p).
      type_rest part h t.next (state p s.list)

  -- no part is read where no depth is left: `counted` has refused the word before its parts are asked for
  abbrev pub too_deep : ℕ → State G → Read G (Parsed ℕ)
  too_deep at s = Err (fault Limit at)

  -- the types inside one at which so many levels of depth are left
  abbrev pub type_inside : ℕ → ℕ → State G → Read G (Parsed ℕ)
  type_inside zero at s = too_deep at s
  type_inside (suc d) at s = type_by (type_inside d) d at s

  -- the type at a place, with so many levels of depth left
  abbrev pub simple_type : ℕ → ℕ → State G → Read G (Parsed ℕ)
  simple_type d at s = type_by (type_inside d) d at s

  -- what follows the first token of a term, by readers of its types and parts
  abbrev pub term_parts : G → (ℕ → State G → Read G (Parsed ℕ)) → (List (List ℕ) → ℕ → State G → Read G (Parsed ℕ)) → List (List ℕ) → TermHead → ℕ → State G → Read G (Parsed Term)
  term_parts one type part scope (heads.Name k) next s = Ok (parsed (Name k) next, s)
  term_parts one type part scope (heads.Number z) next s = Ok (parsed (Number z) next, s)
  term_parts one type part scope heads.Fn next s =
      binder one next s then λ (n, s).
      type n.next (changed (λ p. with_binder p n.entry) s) then λ (a, t).
      part (n.name ∷ scope) a.next t then λ (b, u).
      Ok (parsed (Fn (length s.program.binders) a.value b.value) b.next, u)
  term_parts one type part scope (heads.Binary form) next s =
      part scope next s then λ (a, s).
      part scope a.next s then λ (b, s).
      Ok (parsed (binary form a.value b.value) b.next, s)
  term_parts one type part scope heads.Half next s =
      part scope next s then λ (a, s).
      Ok (parsed (Half a.value) a.next, s)
  term_parts one type part scope heads.Less next s =
      part scope next s then λ (a, s).
      part scope a.next s then λ (b, s).
      part scope b.next s then λ (c, s).
      part scope c.next s then λ (d, s).
      Ok (parsed (Less a.value b.value c.value d.value) d.next, s)

  -- a term is stored behind its parts
  abbrev pub term_by : G → (ℕ → State G → Read G (Parsed ℕ)) → (List (List ℕ) → ℕ → State G → Read G (Parsed ℕ)) → ℕ → List (List ℕ) → ℕ → State G → Read G (Parsed ℕ)
  term_by one type part depth scope at s =
      token_at reading text at then λ t.
      term_head scope t.token t.place then λ h.
      counted depth t.place s.program then λ (_, p).
      term_parts one type part scope h t.next (state p s.list) then λ (f, s).
      store_term t.place f.value f.next s

  -- the terms inside one at which so many levels of depth are left
  abbrev pub term_inside : G → ℕ → List (List ℕ) → ℕ → State G → Read G (Parsed ℕ)
  term_inside one zero scope at s = too_deep at s
  term_inside one (suc d) scope at s = term_by one (type_inside d) (term_inside one d) d scope at s

  -- the term at a place, with so many levels of depth left
  abbrev pub term : G → ℕ → List (List ℕ) → ℕ → State G → Read G (Parsed ℕ)
  term one d scope at s = term_by one (type_inside d) (term_inside one d) d scope at s

  -- the run term, with which the text ends
  abbrev pub run_term : G → List (List ℕ) → ℕ → State G → Read G (Unit {0})
  run_term one scope at s =
      term one 24 scope at s then λ (a, s).
      token_at reading text a.next then λ t.
      ended t.token t.place then λ _.
      Ok (tt, s)

  abbrev pub rule_rest : G → (ℕ → List (List ℕ) → ℕ → State G → Read G (Unit {0})) → RuleHead → List (List ℕ) → ℕ → ℕ → State G → Read G (Unit {0})
  rule_rest one input rule-heads.Run scope place next s = run_term one scope next s
  rule_rest one input rule-heads.Input scope place next s = input place scope next s

  abbrev pub rule_by : G → (ℕ → List (List ℕ) → ℕ → State G → Read G (Unit {0})) → List (List ℕ) → ℕ → State G → Read G (Unit {0})
  rule_by one input scope at s =
      token_at reading text at then λ t.
      rule_head t.token t.place then λ h.
      rule_rest one input h scope t.place t.next s

  -- an input, whose word stands at a place, and what follows it, with so many inputs still allowed
  abbrev pub input : G → ℕ → ℕ → List (List ℕ) → ℕ → State G → Read G (Unit {0})
  input one zero place scope next s = Err (fault Limit place)
  input one (suc left) place scope next s = binder one next s then λ (n, s). rule_by one (input one left) (n.name ∷ scope) n.next (changed (λ p. with_input p n.entry) s)

  -- the rest of a rule, with so many inputs still allowed
  abbrev pub rule : G → ℕ → List (List ℕ) → ℕ → State G → Read G (Unit {0})
  rule one left scope at s = rule_by one (input one left) scope at s

-- a text is read from its start into empty tables, unless it is empty or too long
abbrev pub text_read : {G : Type 0} → (List ℕ → Option (G × ℕ)) → G → List ℕ → List G → Read G (Unit {0})
text_read reading one text list =
    cond (length text == 0) (Err (fault NoText 0))
    (cond (nat_lt 16384 (length text)) (Err (fault LongText 0)) (rule reading text one 8 [] 0 (state no_tables list)))

-- a list with zeros from a place on
abbrev pub zeros_from : {G : Type 0} → G → ℕ → List G → List G
zeros_from nil n l = take n l ++ replicate (length l - n) nil

-- what a reading leaves: its answer, the tables, and the grade list, of which the places beyond the 256th are as they were
abbrev pub left_by : {G : Type 0} → G → List G → Read G (Unit {0}) → Result (Unit {0}) Fault × Tables × List G
left_by nil beyond (Ok (_, s)) = (Ok tt, s.program, zeros_from nil s.program.grades s.list ++ beyond)
left_by nil beyond (Err f) = (Err f, no_tables, replicate 256 nil ++ beyond)

-- reading a text into a program and a grade list, which is not too short
abbrev pub program_read : {G : Type 0} → (List ℕ → Option (G × ℕ)) → G → G → List ℕ → Tables → List G → Result (Unit {0}) Fault × Tables × List G
program_read reading one nil text t l =
    cond (nat_lt (length l) 256) (Err (fault ShortList 0), t, l) (left_by nil (drop 256 l) (text_read reading one text (take 256 l)))
