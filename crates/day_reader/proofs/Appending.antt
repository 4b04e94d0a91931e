-- The loop that appends the records of the lines of a text. Assumes nothing.
use Rattle.std.proofs.Common.{◌≡◌, ℕ, ◌+◌, ◌<◌, ◌≤◌, List, [], ◌∷◌, ◌++◌, length, Ok, Err, vec_items, vec_len, vec_capacity, Vec, sym, refl, ap, ◌∙◌, append_assoc, arith, length-append}
use Rattle.std.proofs.ByRecursion.{All-push}
use Rattle.std.specs.List.{AllByRecursion}
use Rattle.std.specs.declared.alloc.Global.{Global}
use Rattle.text.specs.declared.line.Line.{Line}
use Rattle.text.specs.declared.lines.Lines.{Lines}
use Rattle.text.specs.Building.{two_steps}
use Rattle.text.specs.Numbered.{Gives}
use Rattle.text.proofs.Cutting.{parts_again}
use Rattle.text.proofs.Steps.{read_on, line_is_built}
use Rattle.day_reader.specs.declared.error.DayError.TheVariants.{NoMemory}
use Rattle.day_reader.specs.declared.hand_in.HandIn.{HandIn}
use Rattle.day_reader.specs.HandIns.{Fit, record_of, records_of}
use Rattle.day_reader.specs.Reading.{parse, keep, reading}
use Rattle.day_reader.specs.Writing.{line_bytes, written}
use Rattle.day_reader.specs.Appending.{Appended}
use Rattle.day_reader.proofs.Lines.{line_read_is_writing}
use Rattle.day_reader.proofs.Days.{written_push}
use Rattle.day_reader.proofs.Records.{records_push}

-- some lines are read, their records stand at the end, and what is left gives the result
pub record ReadSoFar (text : List ℕ) (left : Lines) (old new : Vec ℕ Global) : Type 0 where
  pub lines : List HandIn
  pub fit : AllByRecursion Fit lines
  pub begins : text ≡ written lines ++ left.left.now
  pub short : length text ≤ 8192
  pub items : vec_items new ≡ vec_items old ++ records_of lines
  pub capacity : vec_capacity old ≤ vec_capacity new
  pub same : reading text ≡ read_on (two_steps parse keep) lines left

-- the next line, read as h
module _ {text : List ℕ} {left : Lines} {old new : Vec ℕ Global} (s : ReadSoFar text left old new) {p : Line} {next : Lines} (g : Gives left p next) (h : HandIn) (e : parse p.number p.bytes.now ≡ Ok h) where
  line : (p.bytes.now ≡ line_bytes h) × Fit h
  line = line_read_is_writing p.number p.bytes.now h e

  fit_more : AllByRecursion Fit (s.lines ++ h ∷ [])
  fit_more = All-push Fit s.lines h s.fit line.1

  begins_more : text ≡ written (s.lines ++ h ∷ []) ++ next.left.now
  begins_more =
      let rest = next.left.now in
      let cut : left.left.now ≡ p.bytes.now ++ 10 ∷ rest = parts_again 10 left.left.now p.bytes.now rest g.begins.cut in
      s.begins ∙ ap (λ l. written s.lines ++ l) (cut ∙ ap (λ q. q ++ 10 ∷ rest) line.0) ∙ written_push s.lines h rest

  -- the bytes of its record, appended or without the room for them
  module _ (bytes : List ℕ) (is : bytes ≡ record_of h) (newer : Vec ℕ Global) (grown : vec_capacity new ≤ vec_capacity newer) where
    records_more : records_of (s.lines ++ h ∷ []) ≡ records_of s.lines ++ bytes
    records_more = records_push s.lines h ∙ ap (λ bs. records_of s.lines ++ bs) (sym is)

    pub one_more : vec_items newer ≡ vec_items new ++ bytes → ReadSoFar text next old newer
    one_more put =
        let capacity = s.capacity in
        record {
          lines = s.lines ++ h ∷ [];
          fit = fit_more;
          begins = begins_more;
          short = s.short;
          items =
              put
              ∙ ap (λ bs. bs ++ bytes) s.items
              ∙ append_assoc (vec_items old) (records_of s.lines) bytes
              ∙ ap (λ bs. vec_items old ++ bs) (sym records_more);
          capacity = omega arith;
          same = s.same ∙ line_is_built parse keep s.lines g h (Ok (s.lines ++ h ∷ [])) e refl;
        }

    pub no_room : vec_items newer ≡ vec_items new → vec_capacity new < vec_len new + length bytes → Appended text old (Err NoMemory) newer
    no_room put full =
        let capacity = s.capacity in
        let here = ap length s.items ∙ length-append (vec_items old) (records_of s.lines) in
        let more = ap length records_more ∙ length-append (records_of s.lines) bytes in (
          record {
            front = s.lines ++ h ∷ [];
            rest = next.left.now;
            fit = fit_more;
            begins = begins_more;
            short = s.short;
            lacks = omega (arith, old.ok.0, new.ok.0);
          },
          (records_of s.lines, put ∙ s.items),
        )
