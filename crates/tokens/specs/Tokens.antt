-- The tokens of a text. Assumes nothing.
use Rattle.std.specs.Prelude.{ℕ, ◌+◌, ◌-◌, true, false, cond, ◌||◌, List, length, ℤ, Some, None, Ok, Err, Option, Result, ◌==◌, nat_le, nat_lt, slice_index}
use Rattle.std.specs.Int.{is_in_range}
use Rattle.std.specs.List.{between}
use Rattle.text.specs.declared.scan.Class.TheVariants.{Blank, Digit, Wordy, Inside}
use Rattle.text.specs.Scan.{run_end}
use Rattle.text.specs.Decimals.{integer_of}
use Rattle.tokens.specs.declared.refusal.Fault.{Fault}
use Rattle.tokens.specs.declared.refusal.Refusal.{Refusal}
use Rattle.tokens.specs.declared.refusal.Refusal.TheVariants.{NoToken, BadToken, BadGrade}
use Rattle.tokens.specs.declared.token.Token.{Token}
use Rattle.tokens.specs.declared.token.Token.TheVariants as tokens
use Rattle.tokens.specs.declared.token.Placed.{Placed}

-- a token as the bytes of the text that it is, with the value of a number or a grade
pub data Lexeme (G : Type 0) : Type 0 where
  word : List ℕ → Lexeme G
  number : List ℕ → ℤ → Lexeme G
  grade : List ℕ → G → Lexeme G
  end : Lexeme G

-- a token, the count of bytes before it, and the place after it
pub record Lexed (G : Type 0) : Type 0 where
  pub token : Lexeme G
  pub place : ℕ
  pub next : ℕ

abbrev pub fault : Refusal → ℕ → Fault
fault r p = record { refusal = r; place = p }

abbrev pub lexed : {G : Type 0} → Lexeme G → ℕ → ℕ → Lexed G
lexed t p n = record { token = t; place = p; next = n }

-- what starts at a byte
pub data Start : Type 0 where
  letter digit minus opening other : Start

abbrev pub start_of : ℕ → Start
start_of b = cond (is_in_range 97 122 b || is_in_range 65 90 b) letter (cond (is_in_range 48 57 b) digit (cond (b == 45) minus (cond (b == 123) opening other)))

module _ {G : Type 0} (reading : List ℕ → Option (G × ℕ)) (text : List ℕ) where
  -- a word: the longest run of letters, digits and `_`, 16 bytes at most
  abbrev pub word_at : ℕ → Result (Lexed G) Fault
  word_at p =
      let e = run_end Wordy text p in
      cond (nat_lt 16 (e - p)) (Err (fault BadToken p)) (Ok (lexed (word (between p e text)) p e))

  abbrev pub number_of : ℕ → ℕ → Option ℤ → Result (Lexed G) Fault
  number_of p e None = Err (fault BadToken p)
  number_of p e (Some z) = Ok (lexed (number (between p e text) z) p e)

  -- a number: the longest run of digits
  abbrev pub number_at : ℕ → Result (Lexed G) Fault
  number_at p = let e = run_end Digit text p in number_of p e (integer_of (between p e text) false)

  -- `-` and the longest run of digits, which is not `0`
  abbrev pub negative_at : ℕ → Result (Lexed G) Fault
  negative_at p =
      let e = run_end Digit text (p + 1) in
      cond (e == p + 1) (Err (fault NoToken p)) (number_of p e (integer_of (between (p + 1) e text) true))

  -- a number, with a `-` or without
  abbrev pub signed_at : ℕ → Result (Lexed G) Fault
  signed_at p = cond (slice_index text p == 45) (negative_at p) (number_at p)

  -- `{`, a writing, which is read whole, and the next `}`
  abbrev pub grade_of : ℕ → ℕ → Option (G × ℕ) → Result (Lexed G) Fault
  grade_of p e None = Err (fault BadGrade p)
  grade_of p e (Some (g, n)) = cond (n == e - (p + 1)) (Ok (lexed (grade (between p (e + 1) text) g) p (e + 1))) (Err (fault BadGrade p))

  abbrev pub grade_at : ℕ → Result (Lexed G) Fault
  grade_at p =
      let e = run_end Inside text (p + 1) in
      cond (nat_le (length text) e) (Err (fault BadGrade p)) (grade_of p e (reading (between (p + 1) e text)))

  abbrev pub starting : Start → ℕ → Result (Lexed G) Fault
  starting letter p = word_at p
  starting digit p = number_at p
  starting minus p = negative_at p
  starting opening p = grade_at p
  starting other p = Err (fault NoToken p)

  -- the first token at or after a place, past any blanks
  abbrev pub token_at : ℕ → Result (Lexed G) Fault
  token_at from =
      let p = run_end Blank text from in
      cond (nat_le (length text) p) (Ok (lexed end p p)) (starting (start_of (slice_index text p)) p)

-- what the reader's token says
abbrev pub lexeme : {G : Type 0} → Token G → Lexeme G
lexeme (tokens.Word w) = word w.now
lexeme (tokens.Number w z) = number w.now z
lexeme (tokens.Grade w g) = grade w.now g
lexeme tokens.End = end

abbrev pub lexed_of : {G : Type 0} → Placed G → Lexed G
lexed_of p = lexed (lexeme p.token) p.place p.next

abbrev pub seen : {G : Type 0} → Result (Placed G) Fault → Result (Lexed G) Fault
seen (Ok p) = Ok (lexed_of p)
seen (Err f) = Err f
