-- The survey decides.
use Rattle.std.proofs.Common.{◌∙◌, ℕ, ap}
use Rattle.lines.specs.declared.Kind.TheVariants as kinds
use Rattle.lines.specs.declared.Reply.TheVariants.{Refused}
use Rattle.lines.specs.Request.{kind_number}
use Rattle.desk.specs.declared.Outcome.TheVariants.{Line}
use Rattle.desk.specs.Listing.{survey_told}
use Rattle.desk.proofs.ListingLaws.{dumped_register, dumped_refused}
use Rattle.desk.proofs.open_dump.Goals as goal

pub returns-in-Ok : goal.returns-in-Ok
returns-in-Ok c =
    dumped_register _ _ _ c.count_range.ensures (ap survey_told c.in-Ok.is) c.word.ensures c.word-in-Ok.ensures c.word-in-Ok-2.ensures
    c.word-in-Ok-3.ensures

pub returns-in-Err : goal.returns-in-Err
returns-in-Err c =
    ap (λ (k : ℕ). Line (Refused k c.number-in-Err.result)) c.number.ensures
    ∙ ap (λ (n : ℕ). Line (Refused (kind_number kinds.Dump) n)) c.number-in-Err.ensures
    ∙ dumped_refused _ _ _ c.count_range.ensures (ap survey_told c.in-Err.is)
