-- A line of a site program: what is read, and what is written. Assumes nothing.
use Rattle.std.specs.Prelude.{◌≡◌, ℕ, ◌+◌, ◌≤◌, cond, List, [], ◌∷◌, ◌++◌, map, length, Ok, Err, decimal, Result, ◌==◌}
use Rattle.fault.specs.declared.Fault.{Fault}
use Rattle.fault.specs.Faults.{then}
use Rattle.text.specs.Pieces.{pieces, joined}
use Rattle.text.specs.Places.{letter_at}
use Rattle.text.specs.Reading.{tail_of, read_letter, read_number, read_end}
use Rattle.program.specs.declared.rows.Kind.{Kind}
use Rattle.program.specs.declared.rows.Kind.TheVariants.{Skip, Handler, Assign, Output, If, While, Else, Close}
use Rattle.program.specs.declared.rows.Term.{Term}
use Rattle.program.specs.Terms.{expression_from, term_bytes, Expression}

-- what a line says: its kind, and the terms of its expression
abbrev pub Line : Type 0
Line = Kind × List Term

-- an answer with the terms that were read beside it, unless there was a refusal
abbrev pub told : {X : Type 0} → Result X Fault → List Term → Result (X × List Term) Fault
told (Ok x) ts = Ok (x, ts)
told (Err f) ts = Err f

-- an expression, and then no field
abbrev pub whole_from : ℕ → ℕ → List (List ℕ) → Result (List Term) Fault
whole_from n k fs = then (expression_from n k 1 [] fs) (λ e. then (read_end n (k + length e.0) e.1) (λ _. Ok e.0))

-- a letter alone, or with an expression
abbrev pub alone : ℕ → Kind → List (List ℕ) → Result Line Fault
alone n kind fs = then (read_end n 2 fs) (λ _. Ok (kind, []))

abbrev pub tested : ℕ → Kind → List (List ℕ) → Result Line Fault
tested n kind fs = then (whole_from n 2 fs) (λ ts. Ok (kind, ts))

-- a variable or channel from low to high, and an expression for it
abbrev pub aimed_from : ℕ → ℕ → ℕ → List (List ℕ) → Result (ℕ × List Term) Fault
aimed_from n low high fs = then (read_number n 2 low high fs) (λ v. then (whole_from n 3 (tail_of fs)) (λ ts. Ok (v, ts)))

abbrev pub aimed : ℕ → (ℕ → Kind) → ℕ → ℕ → List (List ℕ) → Result Line Fault
aimed n kind low high fs = then (aimed_from n low high fs) (λ a. Ok (kind a.0, a.1))

abbrev pub handler : ℕ → List (List ℕ) → Result Line Fault
handler n fs = then (read_number n 2 0 15 fs) (λ c. then (read_end n 3 (tail_of fs)) (λ _. Ok (Handler c, [])))

-- the letter decides the rest: H A O S I W E X
abbrev pub by_letter : ℕ → ℕ → List (List ℕ) → Result Line Fault
by_letter n c fs =
    cond (c == 72) (handler n fs)
    (cond (c == 65) (aimed n Assign 0 15 fs)
    (cond (c == 79) (aimed n Output 16 31 fs)
    (cond (c == 83) (alone n Skip fs)
    (cond (c == 73) (tested n If fs)
    (cond (c == 87) (tested n While fs)
    (cond (c == 69) (alone n Else fs)
    (cond (c == 88) (alone n Close fs) (Err (letter_at n)))))))))

-- line n with the fields fs
abbrev pub line_in : ℕ → List (List ℕ) → Result Line Fault
line_in n fs = then (read_letter n fs) (λ c. by_letter n c (tail_of fs))

-- line n by its bytes
abbrev pub parse : ℕ → List ℕ → Result Line Fault
parse n p = line_in n (pieces 44 p)

abbrev pub letter_byte : Kind → ℕ
letter_byte Skip = 83
letter_byte (Handler c) = 72
letter_byte (Assign v) = 65
letter_byte (Output c) = 79
letter_byte If = 73
letter_byte While = 87
letter_byte Else = 69
letter_byte Close = 88

-- the field of the variable or channel, if any
abbrev pub target_of : Kind → List (List ℕ)
target_of Skip = []
target_of (Handler c) = decimal c ∷ []
target_of (Assign v) = decimal v ∷ []
target_of (Output c) = decimal c ∷ []
target_of If = []
target_of While = []
target_of Else = []
target_of Close = []

-- the fields that are written of a line
abbrev pub fields_of : Line → List (List ℕ)
fields_of l = (letter_byte l.0 ∷ []) ∷ (target_of l.0 ++ map term_bytes l.1)

-- the fields with commas between them
abbrev pub line_bytes : Line → List ℕ
line_bytes l = joined 44 (fields_of l)

-- the expression and the variable or channel that each kind wants
abbrev pub FitKind : Kind → List Term → Type 0
FitKind Skip ts = ts ≡ []
FitKind (Handler c) ts = (c ≤ 15) × (ts ≡ [])
FitKind (Assign v) ts = (v ≤ 15) × Expression ts
FitKind (Output c) ts = (16 ≤ c) × (c ≤ 31) × Expression ts
FitKind If ts = Expression ts
FitKind While ts = Expression ts
FitKind Else ts = ts ≡ []
FitKind Close ts = ts ≡ []

abbrev pub FitLine : Line → Type 0
FitLine l = FitKind l.0 l.1
