-- Which terms have which types and usages, and which rules are acceptable. Assumes nothing.
use Rattle.std.specs.Prelude.{◌≡◌, ℕ, zero, suc, List, [], ◌∷◌, reverse, replicate, ℤ, Some, None, Option}
use Rattle.language.specs.declared.heads.Binary.TheVariants.{Call, Add, Sub}
use Rattle.grades.specs.declared.algebra.Algebra.{Ghosts}
use Rattle.grammar.specs.Syntax.{Label, Ty, num, to, Tm, name, literal, fn, binary, half, less, Rule, input, run, rule_inputs, run_of}
use Rattle.typing.specs.Usages.{unused, once, sum, product, Covers}

-- the type of the open binder number k, from the innermost outwards
abbrev pub type_of : {G : Type 0} → List (Ty G) → ℕ → Option (Ty G)
type_of [] k = None
type_of (t ∷ context) zero = Some t
type_of (t ∷ context) (suc k) = type_of context k

-- the types of a rule's inputs, which are numbers
abbrev pub input_types : {G : Type 0} → Rule G → List (Ty G)
input_types r = replicate (rule_inputs r) num

-- the declared grades of a rule's inputs, in their order
abbrev pub declared : {G : Type 0} → Rule G → List G
declared (input n g r) = g ∷ declared r
declared (run t) = []

module _ {G : Type 0} (a : Ghosts G) where
  -- `Has context t A u`: where the binders of the context are open, the term t is A with the usage u
  pub data Has : List (Ty G) → Tm G → Ty G → List G → Type 0 where
    name_has : {context : List (Ty G)} {place k : ℕ} {A : Ty G} → type_of context k ≡ Some A → Has context (name place k) A (once a context k)
    number_has : {context : List (Ty G)} {place : ℕ} {z : ℤ} → Has context (literal place z) num (unused a context)
    fn_has : {context : List (Ty G)} {place : ℕ} {n : Label} {g : G} {A B : Ty G} {t : Tm G} {u : List G} → Has (A ∷ context) t B (g ∷ u) → Has context (fn place n g A t) (to g A B) u
    call_has : {context : List (Ty G)} {place : ℕ} {g : G} {A B : Ty G} {s t : Tm G} {u v : List G} → Has context s (to g A B) u → Has context t A v → Has context (binary place Call s t) B (sum a u (product a g v))
    add_has : {context : List (Ty G)} {place : ℕ} {s t : Tm G} {u v : List G} → Has context s num u → Has context t num v → Has context (binary place Add s t) num (sum a u v)
    sub_has : {context : List (Ty G)} {place : ℕ} {s t : Tm G} {u v : List G} → Has context s num u → Has context t num v → Has context (binary place Sub s t) num (sum a u v)
    half_has : {context : List (Ty G)} {place : ℕ} {t : Tm G} {u : List G} → Has context t num u → Has context (half place t) num u
    less_has : {context : List (Ty G)} {place : ℕ} {s t x y : Tm G} {C : Ty G} {u v w : List G} → Has context s num u → Has context t num v → Has context x C w → Has context y C w → Has context (less place s t x y) C (sum a (sum a u v) w)
    -- a term with a usage also has every usage that covers it
    wider : {context : List (Ty G)} {t : Tm G} {A : Ty G} {u v : List G} → Has context t A u → Covers a v u → Has context t A v

  -- a usage of some derivation that every derivation's usage covers
  pub record Least (context : List (Ty G)) (t : Tm G) (A : Ty G) (u : List G) : Type 0 where
    pub has : Has context t A u
    pub least : (v : List G) → Has context t A v → Covers a v u

  -- the run term is a number with a usage that gives each input its declared grade
  abbrev pub Acceptable : Rule G → Type 0
  Acceptable r = Has (input_types r) (run_of r) num (reverse (declared r))

  -- us are the least usages of the inputs, in their order
  abbrev pub LeastUsages : Rule G → List G → Type 0
  LeastUsages r us = Least (input_types r) (run_of r) num (reverse us)
