use Rattle.std.proofs.Common.{◌+◌, ◌∷◌, get_or, drop}
use Rattle.std.proofs.lemmas.List.{at_drop_more, at_drop_all}
use Rattle.print.specs.declared.Entry.{Entry}
use Rattle.print.specs.declared.Entry.TheVariants.{Word}
use Rattle.print.specs.declared.Keyword.TheVariants as keyword
use Rattle.print.specs.Lines.{entry_text, rest_text}
use Rattle.print.proofs.Appending.{appended_short, appended_all}
use Rattle.print.proofs.put_rest.Goals as goal

-- what `get_or` answers past the end of a list of entries
blank : Entry
blank = Word keyword.In

pub returns-in_err-put_entry : goal.returns-in_err-put_entry
unfolding blank
returns-in_err-put_entry c =
    let es = c.args.entries.now in
    let i = c.loop-entry.entry-index in
    appended_short c.args.out.now _ _ (44 ∷ entry_text (get_or es i blank)) (rest_text (drop (i + 1) es)) (at_drop_more rest_text es i blank c.loop-entry-test.true)
    c.loop-entry.out _ c.loop-entry.invariant c.in_err-put_entry.field-0.0 _ c.from_residual.ensures.0 c.in_err-put_entry.ensures

pub returns : goal.returns
returns c =
    let last = rw (at_drop_all rest_text c.args.entries.now c.loop-entry.entry-index c.loop-entry-test.false) at c.loop-entry.invariant in
    appended_all c.args.out.now _ _ c.loop-entry.out _ last _ c.put_bytes.ensures
