-- A field: its bytes, its form, and what it is read as. Assumes nothing.
use Rattle.std.specs.Prelude.{◌≡◌, ℕ, Bool, false, cond, ◌&&◌, List, [], ◌∷◌, length, Some, None, Option, ◌==◌, slice_index}
use Rattle.text.specs.declared.classes.Class.{Class}
use Rattle.text.specs.declared.classes.Class.TheVariants as class
use Rattle.text.specs.declared.field.Field.{Field}
use Rattle.text.specs.declared.field.Field.TheVariants.{Letter, Number, Term, Operator, Other}
use Rattle.text.specs.Classes.{class_of, is_letter}
use Rattle.text.specs.Numbers.{number_in}

-- the part of the line that a field is
abbrev pub bytes_of : Field → List ℕ
bytes_of (Letter c) = c ∷ []
bytes_of (Number digits) = digits.now
bytes_of (Term c digits) = c ∷ digits.now
bytes_of (Operator c) = c ∷ []
bytes_of (Other bytes) = bytes.now

pub data Form : Type 0 where
  letter : Form
  number : Form
  term : Form
  operator : Form
  other : Form

abbrev pub form_of : Field → Form
form_of (Letter c) = letter
form_of (Number digits) = number
form_of (Term c digits) = term
form_of (Operator c) = operator
form_of (Other bytes) = other

-- the form of bytes of which the first has this class, and perhaps stands alone
abbrev pub form_from : Class → Bool → Form
form_from class.Digit alone = number
form_from class.Operand alone = term
form_from class.Letter alone = cond alone letter other
form_from class.Operator alone = cond alone operator other
form_from class.Other alone = other
form_from class.Outside alone = other

abbrev pub form_in : List ℕ → Form
form_in bs = cond (length bs == 0) other (form_from (class_of (slice_index bs 0)) (length bs == 1))

-- a field has the form of its bytes
abbrev pub Formed : Field → Type 0
Formed f = form_of f ≡ form_in (bytes_of f)

abbrev pub FormedIfAny : Option Field → Type 0
FormedIfAny None = Unit {0}
FormedIfAny (Some f) = Formed f

abbrev pub bytes_if_any : Option Field → Option (List ℕ)
bytes_if_any None = None
bytes_if_any (Some f) = Some (bytes_of f)

-- what a field is read as, by its form
abbrev pub letter_of : Field → Option ℕ
letter_of (Letter c) = Some c
letter_of (Number digits) = None
letter_of (Term c digits) = None
letter_of (Operator c) = None
letter_of (Other bytes) = None

abbrev pub number_of : ℕ → ℕ → Field → Option ℕ
number_of low high (Letter c) = None
number_of low high (Number digits) = number_in low high digits.now
number_of low high (Term c digits) = None
number_of low high (Operator c) = None
number_of low high (Other bytes) = None

abbrev pub is_dash : Field → Bool
is_dash (Letter c) = false
is_dash (Number digits) = false
is_dash (Term c digits) = false
is_dash (Operator c) = c == 45
is_dash (Other bytes) = false

-- and by its bytes
abbrev pub letter_in : List ℕ → Option ℕ
letter_in bs = cond (length bs == 1 && is_letter (slice_index bs 0)) (Some (slice_index bs 0)) None

abbrev pub dash_in : List ℕ → Bool
dash_in bs = length bs == 1 && slice_index bs 0 == 45
