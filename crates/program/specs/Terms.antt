-- Terms and expressions as fields of a line: what is read, and what is written. Assumes nothing.
use Rattle.std.specs.Prelude.{◌≡◌, ℕ, ◌+◌, ◌-◌, ◌^◌, ◌<◌, ◌≤◌, cond, List, [], ◌∷◌, ◌++◌, length, drop, Some, None, Ok, Err, decimal, Option, Result, ◌==◌, nat_le, slice_index}
use Rattle.std.specs.List.{AllByRecursion}
use Rattle.std.specs.Option.{option_map}
use Rattle.fault.specs.declared.Fault.{Fault}
use Rattle.fault.specs.Faults.{then}
use Rattle.language.specs.Operators.{operator_of}
use Rattle.language.specs.declared.Operator as language
use Rattle.language.specs.declared.Operator.TheVariants.{Plus, Minus, Times, Equal, Less, Round}
use Rattle.text.specs.Numbers.{number_in}
use Rattle.text.specs.Places.{field_at}
use Rattle.text.specs.Reading.{or_refused}
use Rattle.program.specs.declared.rows.Term.{Term}
use Rattle.program.specs.declared.rows.Term.TheVariants.{Input, Constant, Variable, Operator}

-- + - * = < r
abbrev pub operator_byte : language.Operator → ℕ
operator_byte Plus = 43
operator_byte Minus = 45
operator_byte Times = 42
operator_byte Equal = 61
operator_byte Less = 60
operator_byte Round = 114

-- the term that a field is: x, k with a number, v with a number to 15, or an operator
abbrev pub term_in : List ℕ → Option Term
term_in bs =
    cond (length bs == 0) None
    (cond (slice_index bs 0 == 120) (cond (length bs == 1) (Some Input) None)
    (cond (slice_index bs 0 == 107) (option_map Constant (number_in 0 4294967295 (drop 1 bs)))
    (cond (slice_index bs 0 == 118) (option_map Variable (number_in 0 15 (drop 1 bs)))
    (cond (length bs == 1) (option_map Operator (operator_of (slice_index bs 0))) None))))

abbrev pub term_in_head : Option (List ℕ) → Option Term
term_in_head None = None
term_in_head (Some f) = term_in f

-- the field that is written of a term
abbrev pub term_bytes : Term → List ℕ
term_bytes Input = 120 ∷ []
term_bytes (Constant n) = 107 ∷ decimal n
term_bytes (Variable n) = 118 ∷ decimal n
term_bytes (Operator o) = operator_byte o ∷ []

-- a constant has 32 bits, and there are sixteen variables
abbrev pub FitTerm : Term → Type 0
FitTerm Input = Unit {0}
FitTerm (Constant n) = n < 2 ^ 32
FitTerm (Variable n) = n < 16
FitTerm (Operator o) = Unit {0}

-- how many parts a term wants
abbrev pub arity_of : Term → ℕ
arity_of Input = 0
arity_of (Constant n) = 0
arity_of (Variable n) = 0
arity_of (Operator o) = 2

-- terms while a part is lacking, from the field of place k in line n on, after the terms acc; and the fields that are left
abbrev pub expression_from : ℕ → ℕ → ℕ → List Term → List (List ℕ) → Result (List Term × List (List ℕ)) Fault
expression_from n k lacking acc [] = cond (lacking == 0) (Ok (acc, [])) (Err (field_at n k))
expression_from n k lacking acc (f ∷ fs) =
    cond (lacking == 0) (Ok (acc, f ∷ fs))
    (cond (nat_le 15 (length acc)) (Err (field_at n k))
    (then (or_refused (field_at n k) (term_in f)) (λ t. expression_from n (k + 1) (lacking - 1 + arity_of t) (acc ++ t ∷ []) fs)))

-- a value, unless there was a refusal
abbrev pub unless_refused : {X : Type 0} → Result (Unit {0}) Fault → X → Result X Fault
unless_refused (Ok u) x = Ok x
unless_refused (Err f) x = Err f

-- so many parts are just what the terms make, in prefix order
abbrev pub Whole : ℕ → List Term → Type 0
Whole lacking [] = lacking ≡ 0
Whole lacking (t ∷ ts) = (0 < lacking) × Whole (lacking - 1 + arity_of t) ts

-- an expression: 1 to 15 terms, each in its range
abbrev pub Expression : List Term → Type 0
Expression ts = Whole 1 ts × (length ts ≤ 15) × AllByRecursion FitTerm ts
