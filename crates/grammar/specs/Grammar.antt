-- The language as a grammar: which lists of tokens are which rules. Assumes nothing.
use Rattle.std.specs.Prelude.{◌≡◌, ℕ, ◌≤◌, List, [], ◌∷◌, length, ℤ, Some, None, Ok, Option}
use Rattle.tokens.specs.declared.keyword.Keyword.TheVariants as keywords
use Rattle.language.specs.declared.heads.Binary.{Binary}
use Rattle.language.specs.declared.heads.Binary.TheVariants as binaries
use Rattle.language.specs.declared.heads.TermHead.{TermHead}
use Rattle.language.specs.declared.heads.TermHead.TheVariants as heads
use Rattle.tokens.specs.Keywords.{keyword_of}
use Rattle.language.specs.Scopes.{find}
use Rattle.tokens.specs.Tokens.{Lexeme, word, number, grade, end, Lexed, token_at}
use Rattle.grammar.specs.Syntax.{Label, Ty, num, to, Tm, name, literal, fn, binary, half, less, Rule, input, run, rule_inputs, rule_grades, run_of, term_words, term_depth}

-- a token of the text
abbrev pub Solid : {G : Type 0} → Lexeme G → Type 0
Solid (word w) = Unit {0}
Solid (number w z) = Unit {0}
Solid (grade w g) = Unit {0}
Solid end = ⊥

-- the tokens of the text from a place to its end
pub data Lexes {G : Type 0} (reading : List ℕ → Option (G × ℕ)) (text : List ℕ) : ℕ → List (Lexed G) → Type 0 where
  none : {p : ℕ} {t : Lexed G} → token_at reading text p ≡ Ok t → t.token ≡ end → Lexes reading text p []
  more : {p : ℕ} {t : Lexed G} {ts : List (Lexed G)} → token_at reading text p ≡ Ok t → Solid t.token → Lexes reading text t.next ts → Lexes reading text p (t ∷ ts)

-- what begins a term, where the names of `scope` are open: an open name, a number, or one of six words
pub data Begins {G : Type 0} (scope : List (List ℕ)) : Lexeme G → TermHead → Type 0 where
  by_name : {w : List ℕ} {k : ℕ} → keyword_of w ≡ None → find w scope ≡ Some k → Begins scope (word w) (heads.Name k)
  by_number : {w : List ℕ} {z : ℤ} → Begins scope (number w z) (heads.Number z)
  by_fn : {w : List ℕ} → keyword_of w ≡ Some keywords.Fn → Begins scope (word w) heads.Fn
  by_call : {w : List ℕ} → keyword_of w ≡ Some keywords.Call → Begins scope (word w) (heads.Binary binaries.Call)
  by_add : {w : List ℕ} → keyword_of w ≡ Some keywords.Add → Begins scope (word w) (heads.Binary binaries.Add)
  by_sub : {w : List ℕ} → keyword_of w ≡ Some keywords.Sub → Begins scope (word w) (heads.Binary binaries.Sub)
  by_half : {w : List ℕ} → keyword_of w ≡ Some keywords.Half → Begins scope (word w) heads.Half
  by_less : {w : List ℕ} → keyword_of w ≡ Some keywords.Less → Begins scope (word w) heads.Less

-- no grade stands next
abbrev pub Ungraded : {G : Type 0} → Lexeme G → Type 0
Ungraded (word w) = Unit {0}
Ungraded (number w z) = Unit {0}
Ungraded (grade w g) = ⊥
Ungraded end = Unit {0}

abbrev pub NoGrade : {G : Type 0} → List (Lexed G) → Type 0
NoGrade [] = Unit {0}
NoGrade (t ∷ ts) = Ungraded t.token

abbrev pub label : {G : Type 0} → Lexed G → List ℕ → Label
label t w = record { place = t.place; bytes = w }

module _ {G : Type 0} (one : G) where
  -- a binder: a name, and a grade or, left out, one. Each relation ends with the tokens that are left
  pub data BinderIn : List (Lexed G) → Label → G → List (Lexed G) → Type 0 where
    graded : {t u : Lexed G} {w v : List ℕ} {g : G} {ts : List (Lexed G)} → t.token ≡ word w → keyword_of w ≡ None → u.token ≡ grade v g → BinderIn (t ∷ u ∷ ts) (label t w) g ts
    bare : {t : Lexed G} {w : List ℕ} {ts : List (Lexed G)} → t.token ≡ word w → keyword_of w ≡ None → NoGrade ts → BinderIn (t ∷ ts) (label t w) one ts

  -- `num`, or `to`, a grade and two types
  pub data TypeIn : List (Lexed G) → Ty G → List (Lexed G) → Type 0 where
    num_type : {t : Lexed G} {w : List ℕ} {ts : List (Lexed G)} → t.token ≡ word w → keyword_of w ≡ Some keywords.Num → TypeIn (t ∷ ts) num ts
    function_type : {t u : Lexed G} {w v : List ℕ} {g : G} {a b : Ty G} {ts us vs : List (Lexed G)} → t.token ≡ word w → keyword_of w ≡ Some keywords.To → u.token ≡ grade v g → TypeIn ts a us → TypeIn us b vs → TypeIn (t ∷ u ∷ ts) (to g a b) vs

  mutual
    -- a term: the token that begins it, and its parts
    pub data TermIn : List (List ℕ) → List (Lexed G) → Tm G → List (Lexed G) → Type 0 where
      begun : {scope : List (List ℕ)} {t : Lexed G} {h : TermHead} {u : Tm G} {ts us : List (Lexed G)} → Begins scope t.token h → PartsIn scope t.place h ts u us → TermIn scope (t ∷ ts) u us

    -- the parts of a term by what begins it
    pub data PartsIn : List (List ℕ) → ℕ → TermHead → List (Lexed G) → Tm G → List (Lexed G) → Type 0 where
      name_parts : {scope : List (List ℕ)} {p k : ℕ} {ts : List (Lexed G)} → PartsIn scope p (heads.Name k) ts (name p k) ts
      literal_parts : {scope : List (List ℕ)} {p : ℕ} {z : ℤ} {ts : List (Lexed G)} → PartsIn scope p (heads.Number z) ts (literal p z) ts
      fn_parts : {scope : List (List ℕ)} {p : ℕ} {n : Label} {g : G} {a : Ty G} {b : Tm G} {ts us vs ws : List (Lexed G)} → BinderIn ts n g us → TypeIn us a vs → TermIn (n.bytes ∷ scope) vs b ws → PartsIn scope p heads.Fn ts (fn p n g a b) ws
      binary_parts : {scope : List (List ℕ)} {p : ℕ} {form : Binary} {a b : Tm G} {ts us vs : List (Lexed G)} → TermIn scope ts a us → TermIn scope us b vs → PartsIn scope p (heads.Binary form) ts (binary p form a b) vs
      half_parts : {scope : List (List ℕ)} {p : ℕ} {a : Tm G} {ts us : List (Lexed G)} → TermIn scope ts a us → PartsIn scope p heads.Half ts (half p a) us
      less_parts : {scope : List (List ℕ)} {p : ℕ} {a b c d : Tm G} {ts us vs ws xs : List (Lexed G)} → TermIn scope ts a us → TermIn scope us b vs → TermIn scope vs c ws → TermIn scope ws d xs → PartsIn scope p heads.Less ts (less p a b c d) xs

  -- a rule: any inputs, each open in what follows it, and `run` with a term
  pub data RuleIn : List (List ℕ) → List (Lexed G) → Rule G → Type 0 where
    input-rule : {scope : List (List ℕ)} {t : Lexed G} {w : List ℕ} {n : Label} {g : G} {r : Rule G} {ts us : List (Lexed G)} → t.token ≡ word w → keyword_of w ≡ Some keywords.Input → BinderIn ts n g us → RuleIn (n.bytes ∷ scope) us r → RuleIn scope (t ∷ ts) (input n g r)
    run_rule : {scope : List (List ℕ)} {t : Lexed G} {w : List ℕ} {u : Tm G} {ts : List (Lexed G)} → t.token ≡ word w → keyword_of w ≡ Some keywords.Run → TermIn scope ts u [] → RuleIn scope (t ∷ ts) (run u)

-- a text and its rule within the limits
pub record Within {G : Type 0} (text : List ℕ) (r : Rule G) : Type 0 where
  pub some_byte : 1 ≤ length text
  pub few_bytes : length text ≤ 16384
  pub few_inputs : rule_inputs r ≤ 8
  pub few_grades : rule_grades r ≤ 256
  pub few_words : term_words (run_of r) ≤ 512
  pub few_levels : term_depth (run_of r) ≤ 24
