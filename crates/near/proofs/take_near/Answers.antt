-- The page alone is written, or nothing.
use mathlib.Core.Path.{sym, ap, ◌∙◌}
use lib.ListN.{get_or}
use Rattle.std.specs.Prelude.{Err}
use Rattle.search.specs.Way.{sound_end}
use Rattle.search.proofs.BlockLaws.{under_page}
use Rattle.search.proofs.WayLaws.{answered_ok, answered_err, damage_passed}
use Rattle.near.proofs.PageLaws.{count_left, record_key}
use Rattle.near.proofs.Told.{near_left, words_written, words_kept, words_lost}
use Rattle.near.proofs.take_near.Goals as goal

pub page_at-requires : goal.page_at-requires
page_at-requires c = under_page c.requires.0

pub nothing_joins-requires : goal.nothing_joins-requires
nothing_joins-requires c =
    let p = c.requires in
    (p.0, p.1, p.2, (count_left p.0 p.3 _ p.4 (c.count_of-count.ensures.0 ∙ ap (λ x. get_or x 0 0) c.page_at.ensures)).1)

pub returns-in_err-done : goal.returns-in_err-done
returns-in_err-done c =
    let p = c.requires in
    let a = c.args in
    let l = (count_left p.0 p.3 _ p.4 (c.count_of-count.ensures.0 ∙ ap (λ x. get_or x 0 0) c.page_at.ensures)).0 in
    let q = near_left a.f a.store.now a.head a.key (sound_end a.e) l c.in_err-done.ensures in
    let h = answered_err _ _ q in
    (damage_passed _ c.from_residual.ensures.1 h.1 ∙ ap Err (sym h.1) ∙ q, words_lost _ _ _ _ (sound_end a.e) h.0)

pub returns-then-done : goal.returns-then-done
returns-then-done c =
    let p = c.requires in
    let a = c.args in
    let l = (count_left p.0 p.3 _ p.4 (c.count_of-count.ensures.0 ∙ ap (λ x. get_or x 0 0) c.page_at.ensures)).0 in
    let q = near_left a.f a.store.now a.head a.key (sound_end a.e) l c.in_ok-done.ensures in
    let h = answered_ok _ q in
    (q, record_key _ _ _ _ p.4 c.take_record.ensures ∙ words_written _ _ _ _ (sound_end a.e) (sym h.1 ∙ c.if-done.true))

pub returns-else-done : goal.returns-else-done
returns-else-done c =
    let p = c.requires in
    let a = c.args in
    let l = (count_left p.0 p.3 _ p.4 (c.count_of-count.ensures.0 ∙ ap (λ x. get_or x 0 0) c.page_at.ensures)).0 in
    let q = near_left a.f a.store.now a.head a.key (sound_end a.e) l c.in_ok-done.ensures in
    let h = answered_ok _ q in
    (q, words_kept _ _ _ _ (sound_end a.e) (sym h.1 ∙ c.if-done.false))
