-- By its two tests.
use borrow.Author.Rules.{rules}
use mathlib.Core.Path.{refl, sym}
use mathlib.Core.Bool.{true, false}
use Rattle.lists.proofs.Tests.{passed, failed}
use Rattle.page.proofs.Inside.{filled}
use Rattle.page.proofs.Laws.{rule_facts}
use Rattle.search.proofs.FindLaws.{sound_is}
use Rattle.search.proofs.page_sound.Statement.{statement}
use Rattle.search.proofs.page_sound.Tie as tie

returns : tie.Need-returns-then-not-page_passes
returns c = sound_is _ _ _ _ _ false _ (sym (failed c.page_passes.ensures c.if-not-page_passes.true-raw)) refl

keys_agree_requires : tie.Need-keys_agree-requires
keys_agree_requires c κs =
    let p = c.requires in
    let r = passed c.page_passes.ensures c.if-not-page_passes.false-raw in
    (p.1, (rule_facts _ _ _ r).some, filled _ _ _ r p.2)

returns_2 : tie.Need-returns
returns_2 c =
    sound_is _ _ _ _ _ true _ (sym (passed c.page_passes.ensures c.if-not-page_passes.false-raw)) c.keys_agree.ensures

pub page_sound_spec : {M : Type 1} → statement M
page_sound_spec = tie.close (tie.spec (λ c κs. search rules) returns keys_agree_requires returns_2)
