-- The ten words of the language. Assumes nothing.
use Rattle.std.specs.Prelude.{ℕ, cond, List, Some, None, codes, Option}
use Rattle.std.specs.Str.{bytes_eq}
use Rattle.tokens.specs.declared.keyword.Keyword.{Keyword}
use Rattle.tokens.specs.declared.keyword.Keyword.TheVariants.{Input, Run, Fn, Call, Add, Sub, Half, Less, Num, To}

abbrev pub spelling : Keyword → List ℕ
spelling Input = codes "input"
spelling Run = codes "run"
spelling Fn = codes "fn"
spelling Call = codes "call"
spelling Add = codes "add"
spelling Sub = codes "sub"
spelling Half = codes "half"
spelling Less = codes "less"
spelling Num = codes "num"
spelling To = codes "to"

-- the keyword k, if the word is spelled so, else what else it may be
abbrev pub or_else : List ℕ → Keyword → Option Keyword → Option Keyword
or_else word k rest = cond (bytes_eq word (spelling k)) (Some k) rest

-- the keyword that a word is; any other word is a name
abbrev pub keyword_of : List ℕ → Option Keyword
keyword_of w = or_else w Input (or_else w Run (or_else w Fn (or_else w Call (or_else w Add (or_else w Sub (or_else w Half (or_else w Less (or_else w Num (or_else w To None)))))))))
