-- Whether a row's terms are those that its kind wants, as a test. Assumes nothing.
use Rattle.std.specs.Prelude.{ℕ, ◌+◌, ◌-◌, Bool, true, false, cond, List, [], ◌∷◌, length, ◌==◌, nat_le}
use Rattle.program.specs.declared.rows.Kind.{Kind}
use Rattle.program.specs.declared.rows.Kind.TheVariants.{Skip, Handler, Assign, Output, If, While, Else, Close}
use Rattle.program.specs.declared.rows.Term.{Term}
use Rattle.program.specs.declared.rows.Term.TheVariants.{Input, Constant, Variable, Operator}
use Rattle.program.specs.Terms.{arity_of}

-- a constant has 32 bits, and there are sixteen variables
abbrev pub fits_term : Term → Bool
fits_term Input = true
fits_term (Constant n) = nat_le n 4294967295
fits_term (Variable n) = nat_le n 15
fits_term (Operator o) = true

-- so many parts are just what the terms make, and each term is in its range
abbrev pub makes : ℕ → List Term → Bool
makes lacking [] = lacking == 0
makes lacking (t ∷ ts) = cond (lacking == 0) false (cond (fits_term t) (makes (lacking - 1 + arity_of t) ts) false)

-- an expression of at most 15 terms
abbrev pub expressed : List Term → Bool
expressed ts = cond (nat_le (length ts) 15) (makes 1 ts) false

abbrev pub is_empty : List Term → Bool
is_empty ts = length ts == 0

-- the expression and the variable or channel that each kind wants
abbrev pub fits_kind : Kind → List Term → Bool
fits_kind Skip ts = is_empty ts
fits_kind (Handler c) ts = cond (nat_le c 15) (is_empty ts) false
fits_kind (Assign v) ts = cond (nat_le v 15) (expressed ts) false
fits_kind (Output c) ts = cond (nat_le 16 c) (cond (nat_le c 31) (expressed ts) false) false
fits_kind If ts = expressed ts
fits_kind While ts = expressed ts
fits_kind Else ts = is_empty ts
fits_kind Close ts = is_empty ts
