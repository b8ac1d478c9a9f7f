-- A broken head is told; a sound one has the limits that next asks for.
use mathlib.Core.Path.{sym, ap, ◌∙◌}
use Rattle.store.proofs.HeadLaws.{head_long}
use Rattle.search.specs.Find.{reply}
use Rattle.search.specs.Next.{next_reply}
use Rattle.search.proofs.FindLaws.{broken, answered}
use Rattle.search.proofs.WayLaws.{sought_told}
use Rattle.search.proofs.next.Goals as goal

pub returns-then-not-head_ok : goal.returns-then-not-head_ok
unfolding next_reply
returns-then-not-head_ok c = broken _ _ _ (sym c.head_ok.ensures ∙ c.if-not-head_ok.true)

pub head_of-requires : goal.head_of-requires
head_of-requires c = head_long _ _ (sym c.head_ok.ensures ∙ c.if-not-head_ok.false)

pub next_under-requires : goal.next_under-requires
next_under-requires c = record { rule = sym c.head_ok.ensures ∙ c.if-not-head_ok.false; head = c.head_of.ensures }

pub returns : goal.returns
unfolding next_reply
returns c =
    ap reply (rw c.head_of.ensures at c.next_under.ensures) ∙ sought_told _
    ∙ answered _ _ _ (sym c.head_ok.ensures ∙ c.if-not-head_ok.false)
