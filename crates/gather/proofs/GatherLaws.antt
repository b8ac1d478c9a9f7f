-- The page in hand: the key's page without its record, one join, and the joins as a loop.
--   Gathering == what is left to join with the page in hand is the whole
use mathlib.Core.Path.{◌≡◌, refl, sym, ap, ap₂, ◌∙◌, subst}
use mathlib.Core.Bool.{Bool, true, false}
use mathlib.Core.List.{List, [], ◌∷◌, ◌++◌, append-nil}
use Prim.Native.Nat.{ℕ, ◌+◌, ◌-◌, ◌≤◌, ◌<◌}
use native.Mathlib.Decide.{ℕ_discrete}
use native.Mathlib.Numerals.{add-one}
use native.Mathlib.Omega.{arith}
use lib.ListN.{length, get_or, take, drop, set, drop_of_length-le}
use lib.Seq.{drop-cons}
use Rattle.lists.specs.Lists.{All}
use Rattle.lists.specs.Keyed.{Sorted}
use Rattle.lists.proofs.Parts.{length_part}
use Rattle.lists.proofs.Tests.{all_tab, pairwise_tab}
use Rattle.store.specs.declared.Format.{Format}
use Rattle.store.specs.declared.Head.{Head}
use Rattle.store.specs.declared.Item.{Item}
use Rattle.store.specs.Format.{width}
use Rattle.store.specs.Head.{page_start, page_words, page_at, Under}
use Rattle.store.proofs.Places.{page_inside}
use Rattle.page.specs.Page.{count, item_at, page_rule, lawful_item}
use Rattle.page.specs.Schema.{key_of}
use Rattle.page.proofs.Laws.{rule_facts}
use Rattle.represent.specs.Image.{page_image}
use Rattle.represent.proofs.PageImage.{page_count_lem}
use Rattle.insert.specs.Enter.{items_in, own_items}
use Rattle.insert.proofs.PageWords.{page_image_lem}
use Rattle.insert.proofs.TestLaws.{items_null, items_some}
use Rattle.joins.specs.Joins.{without}
use Rattle.merge.specs.Added.{added}
use Rattle.remove.specs.Remove.{Reach, Pages, on_left, either_page, lost_page, both_pages, emptied}
use Rattle.remove.proofs.PagePhase.{either_null, either_own, lost_left, lost_right, lost_one}
use Rattle.siblings.specs.Pages.{quiet, pages_by, records_in, Paged}
use Rattle.siblings.specs.Outcome.{PageJoins}
use Rattle.siblings.proofs.PageJoinLaws.{both_used, both_length, take_more}
use Rattle.gather.specs.declared.Gathered.{Gathered}
use Rattle.gather.specs.Gather.{Holds, start_of, joined_by}

-- a taken page that keeps the page rule
module _ {f : Format} {s : List ℕ} {h : Head} (u : Under f s h) {p : ℕ} (low : 1 ≤ p) (high : p ≤ h.pages_taken) where
  pub page_long : length (page_at f s h p) ≡ page_words f h.capacity
  unfolding page_at
  page_long = length_part s (page_start f h p) (page_words f h.capacity) (page_inside u low high)

  module _ (rule : page_rule f h.capacity (page_at f s h p) ≡ true) where
    own_is : own_items f s h p ≡ items_in f (page_at f s h p)
    own_is = items_some f s h p (λ z. omega (arith, z, low))

    pub own_image : page_at f s h p ≡ page_image f h.capacity (own_items f s h p)
    own_image = page_image_lem f h.capacity (page_at f s h p) page_long rule ∙ ap (page_image f h.capacity) (sym own_is)

    pub own_lawful : All (λ it. lawful_item f it ≡ true) (own_items f s h p)
    unfolding items_in
    own_lawful =
        let pg : List ℕ = page_at f s h p in
        subst (All (λ it. lawful_item f it ≡ true)) (sym own_is)
        (all_tab (λ it. lawful_item f it ≡ true) (count pg) (item_at f pg) (rule_facts f h.capacity pg rule).order.lawful)

    pub own_sorted : Sorted key_of (own_items f s h p)
    unfolding items_in
    own_sorted =
        let pg : List ℕ = page_at f s h p in
        subst (Sorted key_of) (sym own_is)
        (pairwise_tab (λ x y. x.key < y.key) (count pg) (item_at f pg) (rule_facts f h.capacity pg rule).order.ascends)

    pub own_count : count (page_at f s h p) ≡ length (own_items f s h p)
    own_count = page_count_lem f h.capacity (page_at f s h p) (own_items f s h p) own_image

    pub own_fits : count (page_at f s h p) ≤ h.capacity
    own_fits = (rule_facts f h.capacity (page_at f s h p) rule).fits

-- the key's page without its record
module _ (f : Format) (C used page : ℕ) (rs : List Reach) {items : List ℕ} where
  some_left : (xs : List Item) (lost : List ℕ) → items ≡ page_image f C xs → (length xs ≡ 0 → ⊥)
      → Holds f C (quiet (emptied used page xs rs)) (record { page = page; lost = 0 }) items lost
  unfolding emptied
  some_left [] lost e n = absurd (n refl)
  some_left (x ∷ xs) lost e n = record { page_is = refl; items_are = e; lost_are = refl }

  none_left : (xs : List Item) (lost : List ℕ) → 1 ≤ length lost → items ≡ page_image f C xs → length xs ≡ 0
      → Holds f C (quiet (emptied used page xs rs)) (record { page = 0; lost = 1 }) items (set lost 0 page)
  unfolding emptied
  none_left xs [] l e n = absurd (omega (arith, l))
  none_left [] (y ∷ ys) l e n = record { page_is = refl; items_are = e; lost_are = refl }
  none_left (x ∷ xs) (y ∷ ys) l e n = absurd (omega (arith, n))

pub start_used : (used page : ℕ) (xs : List Item) (rs : List Reach) → (quiet (emptied used page xs rs)).used ≡ used
unfolding emptied
start_used used page [] rs = refl
start_used used page (x ∷ xs) rs = refl

pub start_items : (used page : ℕ) (xs : List Item) (rs : List Reach) → (quiet (emptied used page xs rs)).items ≡ xs
unfolding emptied
start_items used page [] rs = refl
start_items used page (x ∷ xs) rs = refl

-- the same by the count of the words in hand; a is the key of the record that is taken out
module _ (f : Format) (s : List ℕ) (h : Head) (page a : ℕ) {items : List ℕ}
    (is : items ≡ page_image f h.capacity (without key_of a (own_items f s h page))) {n : ℕ} (ne : n ≡ count items) where
  left_count : n ≡ length (without key_of a (own_items f s h page))
  left_count = ne ∙ page_count_lem f h.capacity items (without key_of a (own_items f s h page)) is

  pub first_some : (n ≡ 0 → ⊥) → (lost : List ℕ) (k used : ℕ) (rs : List Reach) → a ≡ k
      → Holds f h.capacity (start_of f s h k used page rs) (record { page = page; lost = 0 }) items lost
  first_some z lost k used rs e =
      subst (λ y. Holds f h.capacity (start_of f s h y used page rs) (record { page = page; lost = 0 }) items lost) e
      (some_left f h.capacity used page rs (without key_of a (own_items f s h page)) lost is (λ q. z (left_count ∙ q)))

  pub first_none : n ≡ 0 → (lost : List ℕ) → 1 ≤ length lost → (k used : ℕ) (rs : List Reach) → a ≡ k
      → Holds f h.capacity (start_of f s h k used page rs) (record { page = 0; lost = 1 }) items (set lost 0 page)
  first_none z lost l k used rs e =
      subst (λ y. Holds f h.capacity (start_of f s h y used page rs) (record { page = 0; lost = 1 }) items (set lost 0 page)) e
      (none_left f h.capacity used page rs (without key_of a (own_items f s h page)) lost l is (sym left_count ∙ z))

-- the number that stays, and the one released: the page p is on the left of the page q, or on its right
abbrev stays : Bool → ℕ → ℕ → ℕ
stays true p q = either_page p q
stays false p q = either_page q p

abbrev goes : Bool → ℕ → ℕ → List ℕ
goes true p q = lost_page p q
goes false p q = lost_page q p

null_joins : (left : Bool) (p q : ℕ) → p ≡ 0 → (stays left p q ≡ q) × (goes left p q ≡ [])
null_joins true p q e = (either_null p q e, lost_left p q e)
null_joins false p q e =
    elim (ℕ_discrete q 0) [
      | yes z ↦ (either_null q p z ∙ e ∙ sym z, lost_left q p z)
      | no z ↦ (either_own q p z, lost_right q p z e)
    ]

fresh_joins : (left : Bool) (p q : ℕ) → (p ≡ 0 → ⊥) → q ≡ 0 → (stays left p q ≡ p) × (goes left p q ≡ [])
fresh_joins true p q n e = (either_own p q n, lost_right p q n e)
fresh_joins false p q n e = (either_null q p e, lost_left q p e)

-- one join
module _ {f : Format} {C : ℕ} {g : Pages} {hand : Gathered} {items lost : List ℕ} (y : Holds f C g hand items lost) where
  joined_holds : (left : Bool) (p : ℕ) (its : List Item) (r : Gathered) (items' lost' : List ℕ)
      → r.page ≡ stays left p g.page → items' ≡ page_image f C (added left g.items its)
      → g.released ++ goes left p g.page ≡ take r.lost lost'
      → Holds f C (both_pages g left p its []) r items' lost'
  unfolding both_pages added
  joined_holds true p its r items' lost' a b c = record { page_is = a; items_are = b; lost_are = c }
  joined_holds false p its r items' lost' a b c = record { page_is = a; items_are = b; lost_are = c }

  -- nothing is released
  kept : (gone : List ℕ) → gone ≡ [] → g.released ++ gone ≡ take hand.lost lost
  kept gone e = ap (λ xs. g.released ++ xs) e ∙ append-nil g.released ∙ y.lost_are

  added_none : (left : Bool) → g.items ≡ added left g.items []
  unfolding added
  added_none true = refl
  added_none false = sym (append-nil g.items)

  module _ (s : List ℕ) (h : Head) (left : Bool) (p : ℕ) where
    pub turn_null : p ≡ 0 → Holds f C (joined_by f s h g left p) hand items lost
    turn_null z =
        let w = null_joins left p g.page z in
        joined_holds left p (own_items f s h p) hand items lost (y.page_is ∙ sym w.0)
        (y.items_are ∙ ap (page_image f C) (added_none left) ∙ ap (λ xs. page_image f C (added left g.items xs)) (sym (items_null f s h p z)))
        (kept (goes left p g.page) w.1)

    module _ (n : p ≡ 0 → ⊥) {items' : List ℕ} (is : items' ≡ page_image f C (added left g.items (own_items f s h p))) where
      pub turn_fresh : hand.page ≡ 0 → Holds f C (joined_by f s h g left p) (record { page = p; lost = hand.lost }) items' lost
      turn_fresh z =
          let w = fresh_joins left p g.page n (sym y.page_is ∙ z) in
          joined_holds left p (own_items f s h p) (record { page = p; lost = hand.lost }) items' lost (sym w.0) is (kept (goes left p g.page) w.1)

      pub turn_both : (hand.page ≡ 0 → ⊥) → hand.lost < length lost → {q x : ℕ}
          → (left ≡ true → q ≡ p) × (left ≡ false → q ≡ hand.page) → (left ≡ true → x ≡ hand.page) × (left ≡ false → x ≡ p)
          → Holds f C (joined_by f s h g left p) (record { page = q; lost = hand.lost + 1 }) items' (set lost hand.lost x)
      turn_both m room {q} {x} a b =
          let w = both_numbers left in
          joined_holds left p (own_items f s h p) (record { page = q; lost = hand.lost + 1 }) items' (set lost hand.lost x) (sym (w a b).0) is
          (ap₂ (λ xs ys. xs ++ ys) y.lost_are (w a b).1 ∙ sym (take_more hand.lost lost x room))
        where
          own : g.page ≡ 0 → ⊥
          own z = m (y.page_is ∙ z)

          both_numbers : (l : Bool) → (l ≡ true → q ≡ p) × (l ≡ false → q ≡ hand.page) → (l ≡ true → x ≡ hand.page) × (l ≡ false → x ≡ p)
              → (stays l p g.page ≡ q) × (goes l p g.page ≡ x ∷ [])
          both_numbers true a b =
              (either_own p g.page n ∙ sym (a.0 refl), lost_one p g.page n own ∙ ap (λ z. z ∷ []) (sym y.page_is ∙ sym (b.0 refl)))
          both_numbers false a b =
              (either_own g.page p own ∙ sym y.page_is ∙ sym (a.1 refl), lost_one g.page p own n ∙ ap (λ z. z ∷ []) (sym (b.1 refl)))

-- the joins as a loop
module _ (f : Format) (s : List ℕ) (h : Head) (k : ℕ) where
  pub record Gathering (z : Pages) (left : ℕ) (hand : Gathered) (items lost rest : List ℕ) : Type 0 where
    pub stretch : Pages
    pub used_is : stretch.used ≡ left
    pub holds : Holds f h.capacity stretch hand items lost
    pub fits : length stretch.items + records_in f s h rest ≤ h.capacity
    pub whole : pages_by f s h k stretch rest ≡ z

  pub gathering_start : (used page : ℕ) (rs : List Reach) (hand : Gathered) (items lost rest : List ℕ)
      → Holds f h.capacity (start_of f s h k used page rs) hand items lost
      → length (without key_of k (own_items f s h page)) + records_in f s h rest ≤ h.capacity
      → Gathering (pages_by f s h k (start_of f s h k used page rs) rest) used hand items lost rest
  gathering_start used page rs hand items lost rest y l =
      let xs : List Item = without key_of k (own_items f s h page) in
      record {
        stretch = start_of f s h k used page rs;
        used_is = start_used used page xs rs;
        holds = y;
        fits = omega (arith, l, ap length (start_items used page xs rs));
        whole = refl;
      }

  -- the records of the next page have room
  pub gathering_room : {z : Pages} {left : ℕ} {hand : Gathered} {items lost rest : List ℕ} → Gathering z left hand items lost rest
      → {p : ℕ} {ps : List ℕ} → rest ≡ p ∷ ps → count items + length (own_items f s h p) ≤ h.capacity
  gathering_room {items = items} y {p} {ps} e =
      omega (
        arith,
        y.fits,
        ap (records_in f s h) e,
        page_count_lem f h.capacity items y.stretch.items y.holds.items_are,
      )

  pub gathering_on : {z : Pages} {left : ℕ} {hand : Gathered} {items lost rest : List ℕ} → Gathering z left hand items lost rest
      → {p : ℕ} {ps : List ℕ} → rest ≡ p ∷ ps → {side : Bool} → side ≡ on_left (width f) k left
      → {hand' : Gathered} {items' lost' : List ℕ}
      → ((g : Pages) → Holds f h.capacity g hand items lost → Holds f h.capacity (joined_by f s h g side p) hand' items' lost')
      → Gathering z (left - 1) hand' items' lost' ps
  gathering_on y {p} {ps} e {side} es {hand' = hand'} {items' = items'} {lost' = lost'} t =
      let g : Pages = y.stretch in
      let its : List Item = own_items f s h p in
      let b : Bool = on_left (width f) k g.used in
      let same : side ≡ b = es ∙ ap (on_left (width f) k) (sym y.used_is) in
      record {
        stretch = both_pages g b p its [];
        used_is = both_used g p its [] b ∙ ap (λ x. x - 1) y.used_is;
        holds = subst (λ x. Holds f h.capacity (both_pages g x p its []) hand' items' lost') same (t g y.holds);
        fits = omega (arith, y.fits, ap (records_in f s h) e, both_length g p its [] b);
        whole = ap (pages_by f s h k g) (sym e) ∙ y.whole;
      }

  pub gathering_out : {z : Pages} {left : ℕ} {hand : Gathered} {items lost rest : List ℕ} → Gathering z left hand items lost rest
      → rest ≡ [] → Holds f h.capacity z hand items lost
  gathering_out {hand = hand} {items = items} {lost = lost} y e =
      subst (λ x. Holds f h.capacity x hand items lost) (ap (pages_by f s h k y.stretch) (sym e) ∙ y.whole) y.holds

-- the pages that are left: the next one, and the last
pub rest_next : (j : ℕ) (xs : List ℕ) → j < length xs → drop j xs ≡ get_or xs j 0 ∷ drop (j + 1) xs
rest_next j xs h = drop-cons xs j 0 h ∙ ap (λ i. get_or xs j 0 ∷ drop i xs) (sym (add-one j))

pub all_next : (P : ℕ → Type 0) {xs : List ℕ} {p : ℕ} {ps : List ℕ} → xs ≡ p ∷ ps → All P xs → P p × All P ps
all_next P e a = subst (All P) e a

pub rest_out : (j : ℕ) (xs : List ℕ) → length xs ≤ j → drop j xs ≡ []
rest_out j xs h = drop_of_length-le xs {i = j} h

-- the joins of the definition, z, by what join_pages and gather_page say
pub plan_holds : (f : Format) (s : List ℕ) (h : Head) (k used page : ℕ) (rs : List Reach) {z : Pages} {j : PageJoins} {mates marks : List ℕ}
    → Paged f s h k (emptied used page (without key_of k (own_items f s h page)) rs) z j mates marks → j.ok ≡ true
    → {r : Gathered} {items lost : List ℕ}
    → Holds f h.capacity (pages_by f s h k (start_of f s h k used page rs) (take j.n mates)) r items lost → Holds f h.capacity z r items lost
plan_holds f s h k used page rs y o {r = r} {items = items} {lost = lost} w =
    let v = subst (λ x. Holds f h.capacity x r items lost) (sym (y.pages_are o)) w in
    record { page_is = v.page_is; items_are = v.items_are; lost_are = v.lost_are }
