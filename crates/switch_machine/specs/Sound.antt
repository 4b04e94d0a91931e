-- Lines that some text of a switch sheet leaves. Assumes nothing.
use Rattle.std.specs.Prelude.{ℕ, Bool, true, false, ◌&&◌, List, drop, Some, None, Option, ◌==◌, nat_le, nat_lt}
use Rattle.std.specs.List.{list_all}
use Rattle.switch.specs.declared.line.SwitchLine.{SwitchLine}
use Rattle.switch.specs.Reading.{sheet_limit}

-- a ticket of an out channel, or none with the value 0
abbrev pub is_made : Option ℕ → ℕ → Bool
is_made None value = value == 0
is_made (Some channel) value = nat_le 16 channel && nat_le channel 31

-- a line that a sheet may hold
abbrev pub is_fit : SwitchLine → Bool
is_fit l = nat_lt l.channel 16 && (nat_le l.low l.high && is_made l.out l.value)

abbrev pub all_fit : List SwitchLine → Bool
all_fit lines = list_all is_fit lines

abbrev pub is_none : Option ℕ → Bool
is_none None = true
is_none (Some channel) = false

abbrev pub is_blank : SwitchLine → Bool
is_blank l = l.state == 0 && (l.channel == 0 && (l.low == 0 && (l.high == 0 && (l.next == 0 && (is_none l.out && l.value == 0)))))

abbrev pub all_blank : List SwitchLine → Bool
all_blank lines = list_all is_blank lines

-- lines of a sheet, and blanks past the most that a sheet has
abbrev pub is_left : List SwitchLine → Bool
is_left lines = all_fit lines && all_blank (drop sheet_limit lines)
