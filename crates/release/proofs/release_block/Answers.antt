-- The part that is given back is zeros with one word set.
use Rattle.std.proofs.Common.{ℕ, List, ◌≡◌, ◌+◌, ◌-◌, replicate, refl, ap, ◌∙◌}
use Rattle.std.proofs.Math.ListN.{set}
use borrow.Rule.Slice.PartMut.{put_mid}
use Rattle.release.proofs.ReleaseLaws.{part_long_lem, given_back}
use Rattle.release.proofs.release_block.Goals as goal

pub returns : goal.returns
returns c =
    let a = c.args in
    let s : List ℕ = a.store.now in
    let zeros : c.fill.new.self ≡ replicate a.size 0 =
    c.fill.ensures.after (λ y e. e) ∙ ap (λ k. replicate k 0) (part_long_lem s a.at a.size (a.at + a.size) refl c.requires.0) in
    ap (λ b. set (set (put_mid a.at (a.at + a.size - a.at) s (set b a.link a.next)) a.last a.n) (a.last + 2) a.count) zeros
    ∙ ap (λ l. set (set l a.last a.n) (a.last + 2) a.count) (given_back s _ a.at a.size (a.at + a.size) refl)
