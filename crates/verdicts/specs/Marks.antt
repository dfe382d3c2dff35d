-- When a text is accepted, in the words of the grammar and of the typing. Assumes nothing.
use Rattle.std.specs.Prelude.{ℕ, List, [], ◌∷◌, ◌++◌, codes, Option}
use Rattle.grades.specs.declared.algebra.Algebra.{Ghosts}
use Rattle.grammar.specs.Syntax.{Rule}
use Rattle.grammar.specs.Grammar.{Within}
use Rattle.grammar.specs.Sentences.{Sentence}
use Rattle.typing.specs.Derivations.{Acceptable}

-- the line that is printed of a rule that is accepted
abbrev pub accepted_line : List ℕ
accepted_line = codes "accepted" ++ 10 ∷ []

-- the text is a sentence of the grammar within the limits, and its rule is acceptable
pub record AcceptableText {G : Type 0} (a : Ghosts G) (reading : List ℕ → Option (G × ℕ)) (text : List ℕ) : Type 0 where
  pub rule : Rule G
  pub sentence : Sentence reading a.unit text rule
  pub within : Within text rule
  pub acceptable : Acceptable a rule
