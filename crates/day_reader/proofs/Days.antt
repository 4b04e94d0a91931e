-- Reading a day inverts writing it, and counts its lines. Assumes nothing.
use Rattle.std.proofs.Common.{◌≡◌, ℕ, ◌+◌, ◌≤◌, cond, eqb, List, [], ◌∷◌, ◌++◌, length, Ok, sym, refl, ap, ◌∙◌, subst, append_assoc, append-nil, zero-add, arith}
use Rattle.std.proofs.lemmas.List.Sums.{sum_by-cons}
use Rattle.std.specs.List.{AllByRecursion}
use Rattle.fault.proofs.Then.{same_ok}
use Rattle.parts.specs.Parts.{feeds}
use Rattle.text.specs.Building.{Built}
use Rattle.text.proofs.Built.{text_read_is_written, written_text_is_read}
use Rattle.text.proofs.Cutting.{Free}
use Rattle.text.proofs.Printing.{clean_is_free}
use Rattle.day_reader.specs.declared.hand_in.HandIn.{HandIn}
use Rattle.day_reader.specs.HandIns.{Fit}
use Rattle.day_reader.specs.Reading.{parse, keep, reading}
use Rattle.day_reader.specs.Writing.{line_bytes, written, Day, ReadingInvertsWriting, ReadingCountsLines}
use Rattle.day_reader.proofs.Lines.{line_read_is_writing, writing_is_read, line_is_clean}

-- lines are kept in order
built_is_kept : (acc us : List HandIn) (n : ℕ) (hs : List HandIn) → Built keep acc n hs us → acc ++ hs ≡ us
built_is_kept acc us n [] e = append-nil acc ∙ e
built_is_kept acc us n (h ∷ hs) e =
    sym (append_assoc acc (h ∷ []) hs) ∙ ap (λ x. x ++ hs) (same_ok (acc ++ h ∷ []) e.0 e.1) ∙ built_is_kept e.0 us (n + 1) hs e.2

kept_is_built : (acc : List HandIn) (n : ℕ) (hs : List HandIn) → Built keep acc n hs (acc ++ hs)
kept_is_built acc n [] = sym (append-nil acc)
kept_is_built acc n (h ∷ hs) = (
  acc ++ h ∷ [],
  refl,
  subst (λ (x : List HandIn). Built keep (acc ++ h ∷ []) (n + 1) hs x) (append_assoc acc (h ∷ []) hs) (kept_is_built (acc ++ h ∷ []) (n + 1) hs),
)

-- what is written of a line that fits holds no line feed
line_is_free : (h : HandIn) → Fit h → Free 10 (line_bytes h)
line_is_free h f = clean_is_free (line_bytes h) (line_is_clean h f)

pub reading_is_written : (t : List ℕ) (hs : List HandIn) → reading t ≡ Ok hs → (t ≡ written hs) × Day hs
reading_is_written t hs e =
    let a = text_read_is_written parse keep line_bytes Fit line_read_is_writing writing_is_read [] hs t e in
    let k = built_is_kept [] hs 0 a.0 a.3 in
    let w : t ≡ written hs = a.1 ∙ ap written k in
    (w, record { fit = subst (λ (x : List HandIn). AllByRecursion Fit x) k a.2; short = subst (λ (x : List ℕ). length x ≤ 8192) w a.4 })

pub written_is_reading : (t : List ℕ) (hs : List HandIn) → (t ≡ written hs) × Day hs → reading t ≡ Ok hs
written_is_reading t hs h =
    ap reading h.0
    ∙ written_text_is_read parse keep line_bytes Fit line_read_is_writing writing_is_read line_is_clean [] hs hs h.1.fit h.1.short (kept_is_built [] 0 hs)

pub reading_inverts_writing : ReadingInvertsWriting
reading_inverts_writing t hs = (reading_is_written t hs, written_is_reading t hs)

-- a line feed for each hand-in
free_feeds : (p t : List ℕ) → Free 10 p → feeds (p ++ t) ≡ feeds t
free_feeds [] t f = refl
free_feeds (b ∷ p) t f = sum_by-cons (λ x. cond (eqb x 10) 1 0) b (p ++ t) ∙ ap (λ x. cond x 1 0 + feeds (p ++ t)) f.0 ∙ zero-add (feeds (p ++ t)) ∙ free_feeds p t f.1

pub feeds_written : (hs : List HandIn) (t : List ℕ) → AllByRecursion Fit hs → feeds (written hs ++ t) ≡ length hs + feeds t
feeds_written [] t f = sym (zero-add (feeds t))
feeds_written (h ∷ hs) t f =
    let r = feeds_written hs t f.1 in
    let e : feeds (written (h ∷ hs) ++ t) ≡ 1 + feeds (written hs ++ t) =
    ap feeds (append_assoc (line_bytes h) (10 ∷ written hs) t) ∙ free_feeds (line_bytes h) (10 ∷ (written hs ++ t)) (line_is_free h f.0) ∙ sum_by-cons (λ x. cond (eqb x 10) 1 0) 10 (written hs ++ t) in
    omega arith

pub reading_counts_lines : ReadingCountsLines
reading_counts_lines t hs e =
    let d = reading_is_written t hs e in
    let c = feeds_written hs [] d.1.fit in
    let w = ap feeds (d.0 ∙ sym (append-nil (written hs))) in
    omega arith

-- one more line
pub written_push : (hs : List HandIn) (h : HandIn) (t : List ℕ) → written hs ++ (line_bytes h ++ 10 ∷ t) ≡ written (hs ++ h ∷ []) ++ t
written_push [] h t = sym (append_assoc (line_bytes h) (10 ∷ []) t)
written_push (g ∷ gs) h t =
    append_assoc (line_bytes g) (10 ∷ written gs) (line_bytes h ++ 10 ∷ t)
    ∙ ap (λ x. line_bytes g ++ 10 ∷ x) (written_push gs h t)
    ∙ sym (append_assoc (line_bytes g) (10 ∷ written (gs ++ h ∷ [])) t)
