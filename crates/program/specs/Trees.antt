-- The program that tables stand for, by a scan of its lines from the last to the first. Assumes nothing.
use Rattle.std.specs.Prelude.{true, false, List, [], ◌∷◌}
use Rattle.language.specs.declared.Operator.{Operator}
use Rattle.language.specs.Block.{Block, done, skip, assign, output, branch, repeat, Tree}
use Rattle.language.specs.Expression.{Expr, input, constant, variable, binary}
use Rattle.program.specs.declared.rows.Kind.{Kind}
use Rattle.program.specs.declared.rows.Kind.TheVariants as kind
use Rattle.program.specs.declared.rows.Row.{Row}
use Rattle.program.specs.declared.rows.Term.{Term}
use Rattle.program.specs.declared.rows.Term.TheVariants as term
use Rattle.program.specs.Lines.{Line}
use Rattle.program.specs.Building.{lines_from}

-- an operator takes the two expressions behind it
abbrev pub operate : Operator → List Expr → List Expr
operate o [] = []
operate o (l ∷ []) = []
operate o (l ∷ r ∷ es) = binary o l r ∷ es

-- the expressions that terms make, one behind the other
abbrev pub expressions : List Term → List Expr
expressions [] = []
expressions (term.Input ∷ ts) = input ∷ expressions ts
expressions (term.Constant n ∷ ts) = constant n ∷ expressions ts
expressions (term.Variable v ∷ ts) = variable v ∷ expressions ts
expressions (term.Operator o ∷ ts) = operate o (expressions ts)

abbrev pub first_expression : List Expr → Expr
first_expression [] = input
first_expression (e ∷ es) = e

abbrev pub expression_of : List Term → Expr
expression_of ts = first_expression (expressions ts)

-- what is left of an open block; of one whose second part is still to come, of the first, with the second
pub data Frame : Type 0 where
  whole : Block → Frame
  parted : Block → Block → Frame
  deriving IsSet as Frame-set

-- a command in front of the innermost
abbrev pub prefixed : (Block → Block) → List Frame → List Frame
prefixed f [] = []
prefixed f (whole b ∷ fs) = whole (f b) ∷ fs
prefixed f (parted a b ∷ fs) = parted (f a) b ∷ fs

abbrev pub halved : List Frame → List Frame
halved [] = []
halved (whole b ∷ fs) = parted done b ∷ fs
halved (parted a b ∷ fs) = []

abbrev pub branched : Expr → List Frame → List Frame
branched e [] = []
branched e (whole b ∷ fs) = prefixed (branch false e b done) fs
branched e (parted a b ∷ fs) = prefixed (branch true e a b) fs

abbrev pub repeated : Expr → List Frame → List Frame
repeated e [] = []
repeated e (whole b ∷ fs) = prefixed (repeat e b) fs
repeated e (parted a b ∷ fs) = []

abbrev pub around : List Frame → List Frame
around [] = []
around (f ∷ fs) = fs

-- one line before others that leave these frames open
abbrev pub framed : Kind → Expr → List Frame → List Frame
framed kind.Skip e fs = prefixed skip fs
framed (kind.Handler c) e fs = around fs
framed (kind.Assign v) e fs = prefixed (assign v e) fs
framed (kind.Output c) e fs = prefixed (output c e) fs
framed kind.If e fs = branched e fs
framed kind.While e fs = repeated e fs
framed kind.Else e fs = halved fs
framed kind.Close e fs = whole done ∷ fs

-- what is left of the blocks that are open before these lines, the innermost first
abbrev pub frames : List Line → List Frame
frames [] = []
frames (l ∷ ls) = framed l.0 (expression_of l.1) (frames ls)

-- what is left of the innermost
abbrev pub here : List Frame → Block
here [] = done
here (whole b ∷ fs) = b
here (parted a b ∷ fs) = a

-- a handler before others
abbrev pub handled : Kind → Block → Tree → Tree
handled kind.Skip b p = p
handled (kind.Handler c) b p = record { channel = c; body = b } ∷ p
handled (kind.Assign v) b p = p
handled (kind.Output c) b p = p
handled kind.If b p = p
handled kind.While b p = p
handled kind.Else b p = p
handled kind.Close b p = p

-- the handlers that begin in lines
abbrev pub program_of : List Line → Tree
program_of [] = []
program_of (l ∷ ls) = handled l.0 (here (frames ls)) (program_of ls)

-- the program of rows and terms: their partners play no part in it
abbrev pub tree_of : List Row → List Term → Tree
tree_of rows terms = program_of (lines_from rows terms)
