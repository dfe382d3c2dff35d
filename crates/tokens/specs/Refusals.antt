-- The number of each refusal, and what is printed of one with its place. Assumes nothing.
use Rattle.std.specs.Prelude.{ℕ, List, ◌++◌, codes, decimal}
use Rattle.tokens.specs.declared.refusal.Fault.{Fault}
use Rattle.tokens.specs.declared.refusal.Refusal.{Refusal}
use Rattle.tokens.specs.declared.refusal.Refusal.TheVariants.{ShortList, NoText, LongText, NoToken, BadToken, BadGrade, Unexpected, NotOpen, Limit, NoProgram, AlreadyJudged, WrongType, TypesDiffer, NotCovered, AnswerNotNum}

abbrev pub number_of : Refusal → ℕ
number_of ShortList = 1
number_of NoText = 2
number_of LongText = 3
number_of NoToken = 4
number_of BadToken = 5
number_of BadGrade = 6
number_of Unexpected = 7
number_of NotOpen = 8
number_of Limit = 9
number_of NoProgram = 10
number_of AlreadyJudged = 11
number_of WrongType = 12
number_of TypesDiffer = 13
number_of NotCovered = 14
number_of AnswerNotNum = 15

-- `refused N at P`
abbrev pub fault_text : Fault → List ℕ
fault_text f = codes "refused " ++ (decimal (number_of f.refusal) ++ (codes " at " ++ decimal f.place))
