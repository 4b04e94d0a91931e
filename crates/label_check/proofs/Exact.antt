-- The answer of the check, against the typing rules. Assumes nothing.
use Rattle.std.proofs.Common.{◌≡◌, ℕ, ◌≤◌, Bool, true, cond, List, length, Some, None, Ok, Err, Option, Result, sym, refl, ap, ◌∙◌, arith}
use Rattle.std.specs.Option.{is_none}
use Rattle.std.proofs.lemmas.List.{length-map}
use Rattle.fault.specs.declared.Fault.{Fault}
use Rattle.fault.specs.declared.Reason.TheVariants as reason
use Rattle.fault.specs.Faults.{unplaced, then}
use Rattle.levels.specs.Scheme.{Levels, Lattice}
use Rattle.sheet.specs.declared.LevelSheet.{LevelSheet}
use Rattle.sheet.specs.Sheets.{has_sheet}
use Rattle.program.specs.declared.rows.Row.{Row}
use Rattle.program.specs.declared.rows.Term.{Term}
use Rattle.program.specs.Building.{line_from, lines_from}
use Rattle.program.specs.Writing.{lines_of, flat_rows}
use Rattle.program.proofs.Programs.{flat_form_tells_the_lines}
use Rattle.flat_form.proofs.Loads.{IsFlat, program_is_flat}
use Rattle.loader.specs.declared.loaded.Program.{Program}
use Rattle.loader.specs.Loading.{rows_of, terms_of, program_in}
use Rattle.typing.specs.Labels.{Labels, labels_of}
use Rattle.typing.specs.Rule.{passes_all}
use Rattle.typing.proofs.Levels.{labels_lawful}
use Rattle.typing.proofs.Passing.{passing_is_typing}
use Rattle.label_check.specs.declared.table.Table.{Table}
use Rattle.label_check.specs.Rows.{first_leak}
use Rattle.label_check.specs.declared.check.Leak.{Leak}
use Rattle.label_check.specs.Tables.{labels_in, found, Copied}
use Rattle.label_check.specs.Checked.{answer, checked, Exact}
use Rattle.label_check.proofs.Same.{same_first_leak}
use Rattle.label_check.proofs.Scan.{none_is_passing}

none_answers : (o : Option ℕ) → is_none o ≡ true → answer o ≡ Ok tt
none_answers None e = refl
none_answers (Some at) e = cc

answers_none : (o : Option ℕ) → answer o ≡ Ok tt → is_none o ≡ true
answers_none None e = refl
answers_none (Some at) e = cc

-- what is answered where the scheme has the levels of the sheet
has_checked : (L : Levels) (sheet : LevelSheet) → has_sheet L sheet ≡ true → (rows : List Row) (terms : List Term) → checked L sheet rows terms ≡ answer (first_leak (labels_of L sheet) (lines_from rows terms))
has_checked L sheet has rows terms = ap (λ (b : Bool). then (cond b (Ok tt) (Err (unplaced reason.Level))) (λ _. answer (first_leak (labels_of L sheet) (lines_from rows terms)))) has

module _ (m : Program) where
  flat : IsFlat (program_in m) (rows_of m) (terms_of m)
  flat = program_is_flat (rows_of m) (terms_of m) m.flat

  its_lines : lines_from (rows_of m) (terms_of m) ≡ lines_of (program_in m)
  its_lines =
      ap (λ r. lines_from r (terms_of m)) flat.rows_are
      ∙ ap (lines_from (flat_rows (program_in m))) flat.terms_are
      ∙ flat_form_tells_the_lines (program_in m) flat.within

  pub rows_are_few : length (rows_of m) ≤ 128
  rows_are_few =
      let few = flat.within.rows_are_few in
      let lines = ap length its_lines in
      let count = length-map (rows_of m) (line_from (terms_of m)) in
      omega arith

  -- no row is found exactly if the program passes
  none_passes : (labels : Labels) → is_none (first_leak labels (lines_from (rows_of m) (terms_of m))) ≡ passes_all labels (program_in m)
  none_passes labels = ap (λ ls. is_none (first_leak labels ls)) its_lines ∙ none_is_passing labels (program_in m) flat.within.handlers_fit

-- what was found by the table is what the scheme and the sheet give
pub found_is_checked : {L : Levels} → Lattice L → (t : Table) → Copied L t → (sheet : LevelSheet) → t.sheet ≡ sheet → (m : Program) (rows : List Row) (terms : List Term) → rows ≡ rows_of m → terms ≡ terms_of m
    → (r : Result (Unit {0}) Leak) → found r ≡ first_leak (labels_in t) (lines_from rows terms) → answer (found r) ≡ checked L sheet (rows_of m) (terms_of m)
found_is_checked {L} laws t copied sheet same m rows terms er et r e =
    let labels = labels_of L t.sheet in
    ap answer (e ∙ same_first_leak laws t copied (lines_from rows terms) ∙ ap (λ r. first_leak labels (lines_from r terms)) er ∙ ap (λ ts. first_leak labels (lines_from (rows_of m) ts)) et)
    ∙ sym (has_checked L t.sheet copied.has (rows_of m) (terms_of m))
    ∙ ap (λ s. checked L s (rows_of m) (terms_of m)) same

pub check_is_exact : {L : Levels} → Lattice L → (sheet : LevelSheet) (m : Program) (r : Result (Unit {0}) Fault) → r ≡ checked L sheet (rows_of m) (terms_of m) → Exact L sheet (program_in m) r
check_is_exact {L} laws sheet m r e =
    let labels = labels_of L sheet in
    let o = first_leak labels (lines_from (rows_of m) (terms_of m)) in
    let typing = λ (has : has_sheet L sheet ≡ true). passing_is_typing labels (labels_lawful laws sheet has) (program_in m) in
    let is = λ (has : has_sheet L sheet ≡ true). e ∙ has_checked L sheet has (rows_of m) (terms_of m) in
    record {
      accepted_is_typed = λ has ok. (typing has).0 (sym (none_passes m labels) ∙ answers_none o (sym (is has) ∙ ok));
      typed_is_accepted = λ has t. is has ∙ none_answers o (none_passes m labels ∙ (typing has).1 t);
    }
