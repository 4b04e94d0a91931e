-- The first row that breaks the label rule, by a scan of a program's lines with the grounds of the open blocks. Assumes nothing.
use Rattle.std.specs.Prelude.{ℕ, ◌+◌, Bool, false, cond, not, List, [], ◌∷◌, Some, None, Option}
use Rattle.language.specs.Expression.{Expr}
use Rattle.program.specs.declared.rows.Kind.{Kind}
use Rattle.program.specs.declared.rows.Kind.TheVariants as kind
use Rattle.program.specs.Lines.{Line}
use Rattle.program.specs.Trees.{expression_of}
use Rattle.typing.specs.Labels.{Labels}
use Rattle.typing.specs.Rule.{raised}

-- A row breaks the rule, where x is the level of the handler's channel and these are the grounds of the open blocks, the innermost first. Outside a handler none does.
abbrev pub fails : Labels → ℕ → List ℕ → Kind → Expr → Bool
fails labels x [] kind e = false
fails labels x (g ∷ gs) kind.Skip e = false
fails labels x (g ∷ gs) (kind.Handler c) e = false
fails labels x (g ∷ gs) (kind.Assign v) e = not (labels.scheme.below (raised labels x g e) (labels.of_variable v))
fails labels x (g ∷ gs) (kind.Output c) e = not (labels.scheme.below (raised labels x g e) (labels.of_channel c))
fails labels x (g ∷ gs) kind.If e = false
fails labels x (g ∷ gs) kind.While e = false
fails labels x (g ∷ gs) kind.Else e = false
fails labels x (g ∷ gs) kind.Close e = false

-- the grounds behind a row: a handler's is the level of its channel, and a test raises that of the block that it opens
abbrev pub grounds : Labels → ℕ → List ℕ → Kind → Expr → List ℕ
grounds labels x [] kind.Skip e = []
grounds labels x [] (kind.Handler c) e = labels.of_channel c ∷ []
grounds labels x [] (kind.Assign v) e = []
grounds labels x [] (kind.Output c) e = []
grounds labels x [] kind.If e = []
grounds labels x [] kind.While e = []
grounds labels x [] kind.Else e = []
grounds labels x [] kind.Close e = []
grounds labels x (g ∷ gs) kind.Skip e = g ∷ gs
grounds labels x (g ∷ gs) (kind.Handler c) e = g ∷ gs
grounds labels x (g ∷ gs) (kind.Assign v) e = g ∷ gs
grounds labels x (g ∷ gs) (kind.Output c) e = g ∷ gs
grounds labels x (g ∷ gs) kind.If e = raised labels x g e ∷ g ∷ gs
grounds labels x (g ∷ gs) kind.While e = raised labels x g e ∷ g ∷ gs
grounds labels x (g ∷ gs) kind.Else e = g ∷ gs
grounds labels x (g ∷ gs) kind.Close e = gs

-- the level of the input behind a row
abbrev pub input_level : Labels → ℕ → List ℕ → Kind → ℕ
input_level labels x (g ∷ gs) kind = x
input_level labels x [] kind.Skip = x
input_level labels x [] (kind.Handler c) = labels.of_channel c
input_level labels x [] (kind.Assign v) = x
input_level labels x [] (kind.Output c) = x
input_level labels x [] kind.If = x
input_level labels x [] kind.While = x
input_level labels x [] kind.Else = x
input_level labels x [] kind.Close = x

-- the first row that breaks the rule, of rows whose first has the number at
abbrev pub leak : Labels → ℕ → List ℕ → ℕ → List Line → Option ℕ
leak labels x gs at [] = None
leak labels x gs at (l ∷ ls) =
    cond (fails labels x gs l.0 (expression_of l.1)) (Some at)
    (leak labels (input_level labels x gs l.0) (grounds labels x gs l.0 (expression_of l.1)) (at + 1) ls)

-- the first of a program, counted from 0
abbrev pub first_leak : Labels → List Line → Option ℕ
first_leak labels ls = leak labels 0 [] 0 ls
