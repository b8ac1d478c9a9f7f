-- The key's page: how many records are left without the key's, and the record taken out of it in place.
use mathlib.Core.Path.{◌≡◌, refl, sym, ap, ap₂, ◌∙◌, subst}
use mathlib.Core.Bool.{true}
use mathlib.Core.List.{List, ◌++◌}
use Prim.Native.Nat.{ℕ, suc, ◌+◌, ◌-◌, ◌≤◌, ◌<◌}
use native.Mathlib.Omega.{arith}
use lib.ListN.{length, get_or, take, drop, length-append, length-drop}
use lib.Seq.{length-take-le}
use Rattle.lists.specs.Lists.{All}
use Rattle.lists.specs.Keyed.{Sorted}
use Rattle.lists.proofs.Parts.{part_in_lem}
use Rattle.store.specs.declared.Format.{Format}
use Rattle.store.specs.declared.Head.{Head}
use Rattle.store.specs.declared.Item.{Item}
use Rattle.store.specs.Head.{head_of, page_start, page_words, page_at, Under}
use Rattle.store.proofs.Places.{page_inside}
use Rattle.page.specs.Page.{count, key_at, lawful_item}
use Rattle.page.specs.Schema.{key_of}
use Rattle.search.specs.Find.{no_item}
use Rattle.represent.specs.Image.{page_image}
use Rattle.represent.proofs.PageImage.{page_key}
use Rattle.split.specs.Insertion.{SameSizes, put_items}
use Rattle.insert.specs.Enter.{own_items}
use Rattle.joins.specs.Joins.{without}
use Rattle.merge.proofs.Laws.{without_at}
use Rattle.apply.proofs.LoopLaws.{page_back}
use Rattle.gather.specs.Gather.{OwnPage}
use Rattle.near.specs.Near.{left_in}
use Rattle.gather.proofs.GatherLaws.{page_long, own_image, own_lawful, own_sorted, own_count, own_fits}

module _ {f : Format} {s : List ℕ} {h : Head} (u : Under f s h) {p i : ℕ} (y : OwnPage f s h p i) where
  abbrev pg : List ℕ
  pg = page_at f s h p

  abbrev its : List Item
  its = own_items f s h p

  image : pg ≡ page_image f h.capacity its
  image = own_image u y.some y.taken y.rule

  inside : i < length its
  inside = omega (arith, y.inside, own_count u y.some y.taken y.rule)

  -- one record less
  pub count_left : (k : ℕ) → key_at f pg i ≡ k → {c : ℕ} → c ≡ get_or pg 0 0
      → (c - 1 ≡ length (without key_of k its)) × (c - 1 ≤ h.capacity)
  count_left k e {c} ec =
      let key_is : (get_or its i no_item).key ≡ k =
      sym (page_key f h.capacity pg its image (own_lawful u y.some y.taken y.rule) i inside) ∙ e in
      let out : without key_of k its ≡ take i its ++ drop (suc i) its =
      ap (λ x. without key_of x its) (sym key_is) ∙ without_at key_of no_item its i inside (own_sorted u y.some y.taken y.rule) in (
        omega (
          arith,
          ec,
          own_count u y.some y.taken y.rule,
          inside,
          ap length out,
          length-append (take i its) (drop (suc i) its),
          length-take-le i its (omega (arith, inside)),
          length-drop (suc i) its,
        ),
        omega (arith, ec, own_fits u y.some y.taken y.rule),
      )

  -- the page as it is lent
  module _ {a w : ℕ} (ea : a ≡ page_start f h p) (ew : w ≡ page_words f h.capacity) where
    pub record_inside : a + w ≤ length s
    record_inside = omega (arith, ea, ew, page_inside u y.some y.taken)

    lent : take (a + w - a) (drop a s) ≡ pg
    unfolding page_at
    lent =
        let n : a + w - a ≡ page_words f h.capacity = omega (arith, ew) in
        ap₂ (λ x z. take x (drop z s)) n ea ∙ sym (part_in_lem s (page_start f h p) (page_words f h.capacity) (page_inside u y.some y.taken))

    pub record_asks : (length (take (a + w - a) (drop a s)) ≡ page_words f h.capacity) × (count (take (a + w - a) (drop a s)) ≤ h.capacity)
        × (i < count (take (a + w - a) (drop a s)))
    record_asks = (
      ap length lent ∙ page_long u y.some y.taken,
      omega (arith, ap count lent, own_fits u y.some y.taken y.rule),
      omega (arith, ap count lent, y.inside),
    )

    pub record_out : {ws : List ℕ}
        → ((rs : List Item) → take (a + w - a) (drop a s) ≡ page_image f h.capacity rs → All (λ it. lawful_item f it ≡ true) rs → Sorted key_of rs
        → ws ≡ page_image f h.capacity (without key_of (key_at f (take (a + w - a) (drop a s)) i) rs))
        → take a s ++ (ws ++ drop (a + w - a) (drop a s)) ≡ put_items f h.capacity s p (left_in f s h (key_at f pg i) p)
    record_out {ws} t =
        page_back s h sizes f p a w ws (page_image f h.capacity (left_in f s h (key_at f pg i) p)) ea ew
        (t its (lent ∙ image) (own_lawful u y.some y.taken y.rule) (own_sorted u y.some y.taken y.rule)
        ∙ ap (λ x. page_image f h.capacity (without key_of (key_at f x i) its)) lent)
      where
        sizes : SameSizes (head_of s) h
        sizes = subst (SameSizes (head_of s)) (sym u.head) (record { theta = refl; capacity = refl; nodes = refl; pages = refl })

-- the record taken out is the key's
pub record_key : (f : Format) (s : List ℕ) (h : Head) (p : ℕ) {x k : ℕ} → x ≡ k → {t : List ℕ} → t ≡ put_items f h.capacity s p (left_in f s h x p)
    → t ≡ put_items f h.capacity s p (left_in f s h k p)
record_key f s h p e g = g ∙ ap (λ y. put_items f h.capacity s p (left_in f s h y p)) e
