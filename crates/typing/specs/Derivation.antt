-- The typing rules: an expression's level is above all that it reads, a command's below all that it writes. Assumes nothing.
use Rattle.std.specs.Prelude.{ℕ, [], ◌∷◌}
use Rattle.language.specs.declared.Operator.{Operator}
use Rattle.language.specs.Expression.{Expr, input, constant, variable, binary}
use Rattle.language.specs.Block.{Handler, Tree}
use Rattle.language.specs.Step.{Command, idle, skip, assign, output, sequence, branch, while, command}
use Rattle.typing.specs.Labels.{Labels, Under}

-- an expression has the level l, where the input has the level x; a number that is no level is below none, so no rule goes on from it
pub data TypedExpression (labels : Labels) (x : ℕ) : Expr → ℕ → Type 0 where
  typed_input : {l : ℕ} → Under labels x l → TypedExpression labels x input l
  typed_constant : {k l : ℕ} → TypedExpression labels x (constant k) l
  typed_variable : {v l : ℕ} → Under labels (labels.of_variable v) l → TypedExpression labels x (variable v) l
  typed_binary : {o : Operator} {a b : Expr} {l : ℕ} (la lb : ℕ) → TypedExpression labels x a la → TypedExpression labels x b lb
      → Under labels la l → Under labels lb l
      → TypedExpression labels x (binary o a b) l

-- a command has the program counter level pc, where the input has the level x
pub data TypedCommand (labels : Labels) (x : ℕ) : Command → ℕ → Type 0 where
  typed_idle : {pc : ℕ} → TypedCommand labels x idle pc
  typed_skip : {pc : ℕ} → TypedCommand labels x skip pc
  typed_assign : {v : ℕ} {e : Expr} {pc : ℕ} (l : ℕ) → TypedExpression labels x e l
      → Under labels l (labels.of_variable v) → Under labels pc (labels.of_variable v)
      → TypedCommand labels x (assign v e) pc
  typed_output : {c : ℕ} {e : Expr} {pc : ℕ} (l : ℕ) → TypedExpression labels x e l
      → Under labels l (labels.of_channel c) → Under labels pc (labels.of_channel c)
      → TypedCommand labels x (output c e) pc
  typed_sequence : {a b : Command} {pc : ℕ} (pca pcb : ℕ) → TypedCommand labels x a pca → TypedCommand labels x b pcb
      → Under labels pc pca → Under labels pc pcb
      → TypedCommand labels x (sequence a b) pc
  typed_branch : {e : Expr} {a b : Command} {pc : ℕ} (l pca pcb : ℕ) → TypedExpression labels x e l → TypedCommand labels x a pca → TypedCommand labels x b pcb
      → Under labels l pca → Under labels l pcb → Under labels pc pca → Under labels pc pcb
      → TypedCommand labels x (branch e a b) pc
  typed_while : {e : Expr} {a : Command} {pc : ℕ} (l pca : ℕ) → TypedExpression labels x e l → TypedCommand labels x a pca
      → Under labels l pca → Under labels pc pca
      → TypedCommand labels x (while e a) pc

-- each handler has the level of its channel, and its input has it too
pub data Typed (labels : Labels) : Tree → Type 0 where
  typed_none : Typed labels []
  typed_handler : {h : Handler} {p : Tree} → TypedCommand labels (labels.of_channel h.channel) (command h.body) (labels.of_channel h.channel) → Typed labels p
      → Typed labels (h ∷ p)
