-- What reading means: it accepts the sentences of the grammar within the limits, and stores their rules. Assumes nothing.
use Rattle.std.specs.Prelude.{◌≡◌, ℕ, ◌≤◌, ◌↔◌, List, [], length, Ok, Option}
use Rattle.tokens.specs.Tokens.{Lexed}
use Rattle.grammar.specs.Syntax.{Rule}
use Rattle.grammar.specs.Grammar.{Lexes, RuleIn, Within}
use Rattle.language.specs.Reading.{State, state, no_tables, text_read}
use Rattle.grammar.specs.Storing.{ruled}
use Rattle.grammar.specs.Recovering.{rule_in}

module _ {G : Type 0} (reading : List ℕ → Option (G × ℕ)) (one : G) where
  -- the text is a sentence of the grammar, and r is its rule
  pub record Sentence (text : List ℕ) (r : Rule G) : Type 0 where
    pub tokens : List (Lexed G)
    pub lexes : Lexes reading text 0 tokens
    pub parses : RuleIn one [] tokens r

  -- a sentence within the limits, whose rule is stored as s in empty tables and the grade list
  pub record Accepted (text : List ℕ) (list : List G) (s : State G) : Type 0 where
    pub rule : Rule G
    pub sentence : Sentence text rule
    pub within : Within text rule
    pub stored : s ≡ ruled rule (state no_tables list)

  pub record Exact : Type 0 where
    -- reading accepts exactly the sentences within the limits, and stores their rules
    pub accepts : (text : List ℕ) (list : List G) (s : State G) → (text_read reading one text list ≡ Ok (tt, s)) ↔ Accepted text list s
    -- the rule that then stands in the tables and the grade list is the rule of the sentence
    pub recovers : (beyond : G) (text : List ℕ) (list : List G) (s : State G) → 256 ≤ length list → (a : Accepted text list s) → rule_in beyond text s.list s.program ≡ a.rule
    -- a text has at most one rule
    pub unique : (text : List ℕ) (r q : Rule G) → Sentence text r → Sentence text q → r ≡ q
