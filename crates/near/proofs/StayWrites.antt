-- What the plan of such a removal writes: the page alone. The path's blocks and the root are written as they stand.
use mathlib.Core.Path.{◌≡◌, refl, sym, ap, ap₂, ◌∙◌, subst}
use mathlib.Core.List.{List, [], ◌∷◌, map}
use mathlib.Core.Logic.{inr}
use Prim.Native.Nat.{ℕ, ◌≤◌}
use native.Mathlib.Omega.{arith}
use lib.ListN.{length, set, length-map}
use lib.Seq.{set-get_or}
use Rattle.lists.specs.Lists.{All}
use Rattle.store.specs.declared.Format.{Format}
use Rattle.store.specs.declared.Item.{Item}
use Rattle.store.specs.Head.{word, head_of}
use Rattle.represent.specs.Rep.{size_of}
use Rattle.search.specs.declared.Step.{Step}
use Rattle.split.specs.Frame.{node_of, put_node, put_head}
use Rattle.split.specs.Insertion.{put_items}
use Rattle.split.proofs.Kept.{size_same}
use Rattle.remove.specs.Remove.{spot_at, top_of, put_spots, put_own, relinked, written_by}
use Rattle.remove.proofs.Writes.{own_some, own_framed, put_own_lem}
use Rattle.near.proofs.StayPlan.{stayed}

-- blocks written as they stand in words that have the same blocks
spots_own : (f : Format) (s t : List ℕ) → size_of f t ≤ length t
    → ((n : ℕ) → 1 ≤ n → n ≤ (head_of t).node_blocks → node_of t n ≡ node_of s n)
    → (us : List Step) → All (λ u. (1 ≤ u.node) × (u.node ≤ (head_of t).node_blocks)) us → put_spots t (map (spot_at s) us) ≡ t
spots_own f s t room same [] a = refl
spots_own f s t room same (u ∷ us) a =
    ap (λ w. put_spots w (map (spot_at s) us))
    (ap (put_node t u.node) (sym (same u.node a.0.0 a.0.1)) ∙ put_own_lem f t u.node room a.0.0 a.0.1)
    ∙ spots_own f s t room same us a.1

root_own : (s : List ℕ) (r l : ℕ) → r ≡ word s 6 → l ≡ word s 7 → set (set s 6 r) 7 l ≡ s
root_own s r l a b =
    ap₂ (λ x y. set (set s 6 x) 7 y) a b ∙ ap (λ w. set w 7 (word s 7)) (set-get_or s 6 0) ∙ set-get_or s 7 0

pub writes_page : (f : Format) (s : List ℕ) (page : ℕ) (its : List Item) (ts : List Step) → size_of f s ≤ length s
    → 1 ≤ page → page ≤ (head_of s).page_blocks → length its ≤ (head_of s).capacity
    → All (λ u. (1 ≤ u.node) × (u.node ≤ (head_of s).node_blocks)) ts
    → top_of (map (spot_at s) ts) ≡ (head_of s).root → length ts ≡ (head_of s).levels
    → put_items f (head_of s).capacity s page its ≡ written_by f s (head_of s) (stayed s page its ts)
unfolding written_by relinked put_head head_of
writes_page f s page its ts room low high fits nodes top long =
    let t : List ℕ = put_own f (head_of s).capacity s page its in
    let w = own_framed f s room page its (inr (low, high, fits)) in
    let room' : size_of f t ≤ length t = omega (arith, room, w.kept.within.long, size_same f s t w.kept.within.sizes_same) in
    let blocks : (head_of t).node_blocks ≡ (head_of s).node_blocks = w.kept.within.sizes_same.nodes in
    let spots : put_spots t (map (spot_at s) ts) ≡ t =
    spots_own f s t room' (λ n p q. w.node n p (omega (arith, q, blocks)) (λ z. z)) ts
    (subst (λ b. All (λ u. (1 ≤ u.node) × (u.node ≤ b)) ts) (sym blocks) nodes) in
    sym (own_some f s room page its (inr (low, high, fits)) (λ z. omega (arith, z, low)))
    ∙ sym (root_own t (top_of (map (spot_at s) ts)) (length (map (spot_at s) ts)) (top ∙ sym (w.words 6 (omega arith) (λ z. z)))
    (length-map ts (spot_at s) ∙ long ∙ sym (w.words 7 (omega arith) (λ z. z))))
    ∙ sym (ap (λ v. set (set v 6 (top_of (map (spot_at s) ts))) 7 (length (map (spot_at s) ts))) spots)
