-- What is printed of an input that is a scheme, a level sheet and a batch of tickets, parted by lines `-`. Assumes nothing.
use Rattle.std.specs.Prelude.{ℕ, List}
use Rattle.listing.specs.Listing.{listing}
use Rattle.scheme_report.specs.Report as parts

abbrev pub report : List ℕ → List ℕ
report input = parts.report listing input
