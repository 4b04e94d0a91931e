-- The bytes of a printed line: its entries with commas between them, and a line feed. Assumes nothing.
use Rattle.std.specs.Prelude.{ℕ, List, [], ◌∷◌, ◌++◌, codes, decimal}
use Rattle.fault.specs.declared.Fault.{Fault}
use Rattle.fault.specs.Faults.{number_of}
use Rattle.print.specs.declared.Entry.{Entry}
use Rattle.print.specs.declared.Entry.TheVariants.{Word, Number}
use Rattle.print.specs.declared.Keyword.{Keyword}
use Rattle.print.specs.declared.Keyword.TheVariants as keyword

abbrev pub keyword_text : Keyword → List ℕ
keyword_text keyword.In = codes "I"
keyword_text keyword.Out = codes "O"
keyword_text keyword.Batch = codes "B"
keyword_text keyword.Fault = codes "R"
keyword_text keyword.Turn = codes "T"
keyword_text keyword.Ended = codes "ended"
keyword_text keyword.Stalled = codes "stalled"
keyword_text keyword.Refused = codes "refused"
keyword_text keyword.Labels = codes "L"
keyword_text keyword.Pass = codes "pass"
keyword_text keyword.Leak = codes "leak"

abbrev pub entry_text : Entry → List ℕ
entry_text (Word w) = keyword_text w
entry_text (Number n) = decimal n

-- the entries, each behind a comma
abbrev pub rest_text : List Entry → List ℕ
rest_text [] = 10 ∷ []
rest_text (e ∷ es) = 44 ∷ (entry_text e ++ rest_text es)

-- a line begins with a word
abbrev pub line_text : Keyword → List Entry → List ℕ
line_text w es = keyword_text w ++ rest_text es

-- the refusal of a part of the input
abbrev pub fault_line : ℕ → Fault → List ℕ
fault_line part f = line_text keyword.Fault (Number part ∷ Number (number_of f.reason) ∷ Number f.line ∷ Number f.field ∷ [])
