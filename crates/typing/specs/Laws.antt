-- What the label rule decides. Assumes nothing.
use Rattle.std.specs.Prelude.{◌≡◌, true}
use Rattle.language.specs.Block.{Tree}
use Rattle.typing.specs.Labels.{Labels, Lawful}
use Rattle.typing.specs.Rule.{passes_all}
use Rattle.typing.specs.Derivation.{Typed}

-- a program passes exactly if it has a typing derivation
abbrev pub PassingIsTyping : Type 0
PassingIsTyping = (labels : Labels) → Lawful labels → (p : Tree) → (passes_all labels p ≡ true → Typed labels p) × (Typed labels p → passes_all labels p ≡ true)
