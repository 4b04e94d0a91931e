-- The loop that gives a lent sheet the levels of the lines of a text. Assumes nothing.
use Rattle.std.proofs.Common.{◌≡◌, ℕ, ◌<◌, Bool, true, false, List, [], ◌∷◌, ◌++◌, get_or, set, Ok, sym, refl, ap, ◌∙◌, subst}
use Rattle.levels.specs.Scheme.{Levels}
use Rattle.sheet.specs.declared.LevelSheet.{LevelSheet}
use Rattle.sheet.specs.Sheets.{uniform}
use Rattle.text.specs.declared.line.Line.{Line}
use Rattle.text.specs.declared.lines.Lines.{Lines}
use Rattle.text.specs.Building.{two_steps}
use Rattle.text.specs.Numbered.{Gives}
use Rattle.text.proofs.Steps.{read_on, line_is_built}
use Rattle.sheet_reader.specs.declared.line.SheetLine.{SheetLine}
use Rattle.sheet_reader.specs.Naming.{place_of, has_name, given, all_given, sheet_of}
use Rattle.sheet_reader.specs.Reading.{parse, add, reading}
use Rattle.sheet_reader.specs.Writing.{Fit}
use Rattle.sheet_reader.proofs.Adding.{line_is_added}
use Rattle.sheet_reader.proofs.Lines.{line_read_is_writing}
use Rattle.sheet_reader.proofs.Flags.{Tells, tells_push}

all_given_push : (sheet : LevelSheet) (ls : List SheetLine) (l : SheetLine) → all_given sheet (ls ++ l ∷ []) ≡ given (all_given sheet ls) l.name l.level
all_given_push sheet [] l = refl
all_given_push sheet (k ∷ ks) l = all_given_push (given sheet k.name k.level) ks l

-- some lines are read: the flags tell their names, the sheet has their levels, and what is left gives the result
pub record ReadSoFar (L : Levels) (text : List ℕ) (left : Lines) (flags : List Bool) (sheet : LevelSheet) : Type 0 where
  pub lines : List SheetLine
  pub flagged : Tells flags lines
  pub given : sheet ≡ sheet_of L.lowest lines
  pub same : reading L text ≡ read_on (two_steps parse (add L)) lines left

module _ {L : Levels} {text : List ℕ} {left : Lines} {flags : List Bool} {sheet : LevelSheet} (s : ReadSoFar L text left flags sheet) where
  -- the next line
  module _ {p : Line} {next : Lines} (g : Gives left p next) where
    -- read as l
    module _ (l : SheetLine) (h : parse p.number p.bytes.now ≡ Ok l) where
      fits : Fit l
      fits = (line_read_is_writing p.number p.bytes.now l h).1

      module _ (place : ℕ) (at : place ≡ place_of l.name) where
        -- the flag at the place of its name
        flag_tells : get_or flags place false ≡ has_name s.lines l.name
        flag_tells = ap (λ i. get_or flags i false) at ∙ s.flagged.tells l.name fits.name

        module _ (new : get_or flags place false ≡ false) where
          pub one_more : l.level < L.count → (after : LevelSheet) → after ≡ given sheet l.name l.level → ReadSoFar L text next (set flags place true) after
          one_more lt after e =
              record {
                lines = s.lines ++ l ∷ [];
                flagged = subst (λ (i : ℕ). Tells (set flags i true) (s.lines ++ l ∷ [])) (sym at) (tells_push s.flagged l fits.name);
                given = e ∙ ap (λ x. given x l.name l.level) s.given ∙ sym (all_given_push (uniform L.lowest) s.lines l);
                same =
                    s.same
                    ∙ line_is_built parse (add L) s.lines g l (Ok (s.lines ++ l ∷ [])) h
                    (line_is_added L s.lines p.number l (sym flag_tells ∙ new) lt);
              }
