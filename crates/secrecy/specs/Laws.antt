-- What the label rule is good for. Assumes nothing.
use Rattle.std.specs.Prelude.{◌≡◌, ℕ, true}
use Rattle.language.specs.Block.{Tree}
use Rattle.typing.specs.Labels.{Labels, Lawful}
use Rattle.typing.specs.Rule.{passes_all}
use Rattle.typing.specs.Derivation.{Typed}
use Rattle.secrecy.specs.Observer.{observer}
use Rattle.secrecy.specs.Alike.{KeepsApart}

-- a program with a typing derivation tells the observer at any level nothing of what it does not see
abbrev pub TypedProgramsKeepLevelsApart : Type 0
TypedProgramsKeepLevelsApart = (labels : Labels) → Lawful labels → (p : Tree) → Typed labels p → (m : ℕ) → KeepsApart (observer labels m) p

-- nor does one that the label rule passes
abbrev pub PassedProgramsKeepLevelsApart : Type 0
PassedProgramsKeepLevelsApart = (labels : Labels) → Lawful labels → (p : Tree) → passes_all labels p ≡ true → (m : ℕ) → KeepsApart (observer labels m) p
