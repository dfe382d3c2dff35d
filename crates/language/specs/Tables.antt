-- What holds of the tables of every program. Assumes nothing.
use Rattle.std.specs.Prelude.{◌≡◌, ℕ, ◌<◌, Bool, true, ◌&&◌, List, length, get_or, pos, nat_lt, slice_index_or}
use Rattle.language.specs.declared.program.Binder.{Binder}
use Rattle.language.specs.declared.program.SimpleType.{SimpleType}
use Rattle.language.specs.declared.program.SimpleType.TheVariants.{Num, To}
use Rattle.language.specs.declared.program.Term.{Term}
use Rattle.language.specs.declared.program.Term.TheVariants.{Name, Number, Fn, Call, Add, Sub, Half, Less}
use Rattle.language.specs.declared.program.Node.{Node}

-- what stands past the end of each table
abbrev pub no_binder : Binder
no_binder = record { place = 0; len = 0; grade = 0 }

abbrev pub no_node : Node
no_node = record { term = Number (pos 0); place = 0 }

-- a type's grade is one of the rule's, and its parts are older
abbrev pub type_sound : ℕ → ℕ → SimpleType → Bool
type_sound grades i Num = true
type_sound grades i (To grade from to) = nat_lt grade grades && (nat_lt from i && nat_lt to i)

-- a term's binder and type are in their tables, and its parts are older
abbrev pub term_sound : ℕ → ℕ → ℕ → Term → Bool
term_sound binders types i (Name k) = true
term_sound binders types i (Number z) = true
term_sound binders types i (Fn binder domain body) = nat_lt binder binders && (nat_lt domain types && nat_lt body i)
term_sound binders types i (Call function argument) = nat_lt function i && nat_lt argument i
term_sound binders types i (Add left right) = nat_lt left i && nat_lt right i
term_sound binders types i (Sub left right) = nat_lt left i && nat_lt right i
term_sound binders types i (Half part) = nat_lt part i
term_sound binders types i (Less left right below otherwise) = (nat_lt left i && nat_lt right i) && (nat_lt below i && nat_lt otherwise i)

-- every binder's grade is one of the rule's
abbrev pub BindersSound : ℕ → List Binder → Type 0
BindersSound grades binders = (i : ℕ) → i < length binders → (get_or binders i no_binder).grade < grades

abbrev pub TypesSound : ℕ → List SimpleType → Type 0
TypesSound grades types = (i : ℕ) → i < length types → type_sound grades i (slice_index_or types i Num) ≡ true

abbrev pub NodesSound : ℕ → ℕ → List Node → Type 0
NodesSound binders types nodes = (i : ℕ) → i < length nodes → term_sound binders types i (get_or nodes i no_node).term ≡ true
