-- One law for each way out.
use mathlib.Core.Path.{◌≡◌, refl, sym, ap, ◌∙◌}
use mathlib.Core.Bool.{true≢false}
use mathlib.Core.List.{List}
use Prim.Native.Nat.{ℕ}
use native.Mathlib.Omega.{arith}
use Rattle.store.specs.declared.Format.{Format}
use Rattle.store.specs.declared.Head.{Head}
use Rattle.store.specs.Head.{page_at}
use Rattle.store.proofs.HeadLaws.{width_within}
use Rattle.page.proofs.Inside.{page_lent, filled}
use Rattle.search.specs.Way.{Visit, Terminal, sought_result}
use Rattle.search.specs.Descent.{descent}
use Rattle.search.specs.Find.{sound_page}
use Rattle.search.proofs.BlockLaws.{under_page, under_levels}
use Rattle.search.proofs.TerminalLaws.{terminal_ok}
use Rattle.search.proofs.UseLaws.{at_asked, Landed, landed}
use Rattle.search.proofs.FindLaws.{Led, find_lost, find_null, find_unsound, find_sound, sound_rule}
use Rattle.search.proofs.WayLaws.{answered_err, terminal_is, damage_passed}
use Rattle.search.proofs.find_under.Goals as goal

-- the way led to a page
led : {f : Format} {s : List ℕ} {h : Head} {k : ℕ} {t : Terminal} {v : Visit} {pg : List ℕ} → Landed f s h k t v → (v.pointer ≡ 0 → ⊥)
    → pg ≡ page_at f s h v.pointer → Led f s h k (descent f s h k) pg
led d z e = record { way = refl; ok = d.ok; some = λ q. z (sym d.page ∙ q); page = e ∙ ap (page_at _ _ _) (sym d.page) }

pub returns-in_err-t : goal.returns-in_err-t
returns-in_err-t c =
    let l = under_levels c.requires in
    let h = answered_err _ _ (sym c.in_err-t.was ∙ c.terminal_of.ensures) in
    damage_passed _ c.from_residual.ensures.1 h.1
    ∙ ap sought_result (find_lost _ _ _ c.args.key _ refl (terminal_ok _ _ _ _ l.0 ∙ h.0))

pub own_entry-v-requires : goal.own_entry-v-requires
own_entry-v-requires c = at_asked _ _ _ _ c.requires (terminal_is _ (sym c.in_ok-t.was ∙ c.terminal_of.ensures)) refl

pub returns-then-v-eq0 : goal.returns-then-v-eq0
returns-then-v-eq0 c =
    let d = landed c.requires c.args.key (terminal_is _ (sym c.in_ok-t.was ∙ c.terminal_of.ensures)) refl c.own_entry-v.ensures in
    ap sought_result (find_null _ _ _ _ _ refl d.ok (d.page ∙ c.if-v-eq0.true))

pub page_at-page-requires : goal.page_at-page-requires
page_at-page-requires c = under_page c.requires

pub overflow_add-t : goal.overflow_add-t
overflow_add-t c =
    let d = landed c.requires c.args.key (terminal_is _ (sym c.in_ok-t.was ∙ c.terminal_of.ensures)) refl c.own_entry-v.ensures in
    omega (arith, d.bits, width_within c.args.f)

pub page_sound-requires : goal.page_sound-requires
page_sound-requires c =
    let d = landed c.requires c.args.key (terminal_is _ (sym c.in_ok-t.was ∙ c.terminal_of.ensures)) refl c.own_entry-v.ensures in
    ((under_page c.requires).1, d.bits, rw c.page_at-page.ensures (page_lent _ _ _ _), λ z. absurd (true≢false z))

pub returns-then-not-page_sound : goal.returns-then-not-page_sound
returns-then-not-page_sound c =
    let d = landed c.requires c.args.key (terminal_is _ (sym c.in_ok-t.was ∙ c.terminal_of.ensures)) refl c.own_entry-v.ensures in
    ap sought_result
    (find_unsound (led d c.if-v-eq0.false c.page_at-page.ensures)
    (sym (c.page_sound.ensures ∙ ap (sound_page _ _ _ _) (sym d.used)) ∙ c.if-not-page_sound.true))

pub find_in-requires : goal.find_in-requires
find_in-requires c =
    let e = c.page_at-page.ensures in
    filled _ _ _ (sound_rule _ _ _ _ _ (sym c.page_sound.ensures ∙ c.if-not-page_sound.false)) (rw e (page_lent _ _ _ _))

pub returns : goal.returns
returns c =
    let d = landed c.requires c.args.key (terminal_is _ (sym c.in_ok-t.was ∙ c.terminal_of.ensures)) refl c.own_entry-v.ensures in
    c.find_in.ensures
    ∙ ap sought_result
    (find_sound (led d c.if-v-eq0.false c.page_at-page.ensures)
    (sym (c.page_sound.ensures ∙ ap (sound_page _ _ _ _) (sym d.used)) ∙ c.if-not-page_sound.false) refl)
