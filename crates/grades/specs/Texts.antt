-- What the text of a written algebra keeps. Assumes nothing.
use Rattle.std.specs.Prelude.{◌≡◌, ℕ, ◌⊎◌, ◌↔◌, List, [], ◌∷◌, ◌++◌, length, Some, Option, ◌≢◌}
use Rattle.std.specs.List.{AllByRecursion}

-- `|`, between the two texts of a pairing
abbrev pub bar : ℕ
bar = 124

-- `}`, the end of a grade in a rule
abbrev pub brace : ℕ
brace = 125

-- nothing, `|` or `}` stands next
abbrev pub Stops : List ℕ → Type 0
Stops [] = Unit {0}
Stops (b ∷ bs) = (b ≡ bar) ⊎ (b ≡ brace)

pub record Text {G : Type 0} (reading : List ℕ → Option (G × ℕ)) (writing : G → List ℕ) : Type 0 where
  -- bytes w followed by nothing, `|` or `}` are read as g, with the length of w, exactly when w is the writing of g
  pub exact : (w rest : List ℕ) (g : G) → Stops rest → (reading (w ++ rest) ≡ Some (g, length w)) ↔ (w ≡ writing g)
  -- no writing holds `}`
  pub no_brace : (g : G) → AllByRecursion (λ b. b ≢ brace) (writing g)
