-- Loops that write blocks: what is left, done after what is done, is the whole. The head keeps its sizes all the while.
use mathlib.Core.Path.{◌≡◌, refl, sym, ap, ap₂, ◌∙◌, subst}
use mathlib.Core.Bool.{Bool, true, false}
use mathlib.Core.List.{List, [], ◌∷◌, ◌++◌}
use Prim.Native.Nat.{ℕ, zero, suc, ◌+◌, ◌-◌, ◌*◌, ◌≤◌, ◌<◌}
use native.Mathlib.Omega.{arith}
use native.Mathlib.Decide.{ℕ_discrete}
use lib.Pow.{pow_mono}
use lib.ListN.{length, take, drop, set, drop_of_length-le, length-set, length-take, get_or-append}
use lib.Seq.{drop-cons, get_or-take, get_or-set_same, get_or-set_other}
use Rattle.lists.specs.Lists.{replaced, part}
use Rattle.lists.proofs.Parts.{part_in_lem}
use Rattle.store.specs.declared.Format.{Format}
use Rattle.store.specs.declared.Head.{Head}
use Rattle.store.specs.Head.{word, head_of, released_of, node_words, page_words, node_start, page_start, node_at}
use Rattle.store.proofs.Places.{part_word, page_start_lem}
use Rattle.store.specs.Released.{released_node, released_page}
use Rattle.node.specs.Node.{forward_word}
use Rattle.split.specs.Block.{linked}
use Rattle.split.specs.Frame.{put_node, put_page}
use Rattle.split.specs.Insertion.{SameSizes}
use Rattle.split.proofs.Frame.{node_layout, put_node_head, put_page_head}
use Rattle.release.specs.Release.{release_node, release_page}
use Rattle.release.proofs.ReleaseLaws.{node_place, page_place, given_back}
use Rattle.remove.specs.Remove.{put_spots, back_linked, relinked, release_pages, release_nodes}
use Rattle.remove.proofs.Writes.{back_null, back_some}
use Rattle.apply.specs.Carried.{block_in, spot_in, spots_from}

pub node_small : (θ : ℕ) → θ ≤ 6 → node_words θ ≤ 132
unfolding node_words
node_small θ h = omega (arith, pow_mono {i = θ} {j = 6} h)

head_set : (s : List ℕ) (i v : ℕ) → 8 ≤ i → head_of (set s i v) ≡ head_of s
unfolding head_of
head_set s i v h =
    rw (
      at 0 (omega arith),
      at 1 (omega arith),
      at 2 (omega arith),
      at 3 (omega arith),
      at 4 (omega arith),
      at 5 (omega arith),
      at 6 (omega arith),
      at 7 (omega arith),
    )
  where
    at : (j : ℕ) → j < 8 → word (set s i v) j ≡ word s j
    at j l = get_or-set_other s i j v 0 (λ e. omega (arith, e))

pub sizes_of_lem : (s t : List ℕ) (h : Head) → head_of t ≡ head_of s → SameSizes (head_of s) h → SameSizes (head_of t) h
sizes_of_lem s t h e z = subst (λ (x : Head). SameSizes x h) (sym e) z

-- a block put, where a head of the same sizes places it
module _ (s : List ℕ) (h : Head) (z : SameSizes (head_of s) h) where
  pub node_put_is : (n : ℕ) (ws : List ℕ) → replaced (node_start h n) (node_words h.theta) ws s ≡ put_node s n ws
  unfolding put_node
  node_put_is n ws = rw (node_place s h z n, z.theta)

  pub page_put_is : (f : Format) (p : ℕ) (ws : List ℕ) → replaced (page_start f h p) (page_words f h.capacity) ws s ≡ put_page f s p ws
  unfolding put_page
  page_put_is f p ws = rw (page_place s h z f p, z.capacity)

  pub sizes_node : (t : List ℕ) (n : ℕ) (ws : List ℕ) → 8 ≤ length s → t ≡ put_node s n ws → SameSizes (head_of t) h
  sizes_node t n ws l e = sizes_of_lem s t h (ap head_of e ∙ put_node_head s n ws l) z

  pub sizes_released : (t : List ℕ) (n : ℕ) → 8 ≤ length s → t ≡ release_node s n → SameSizes (head_of t) h
  unfolding release_node
  sizes_released t n l e =
      sizes_of_lem s t h (ap head_of e ∙ head_set _ 10 _ (omega arith) ∙ head_set _ 8 n (omega arith) ∙ put_node_head s n _ l) z

  pub sizes_freed : (f : Format) (t : List ℕ) (p : ℕ) → 8 ≤ length s → t ≡ release_page f s p → SameSizes (head_of t) h
  unfolding release_page
  sizes_freed f t p l e =
      sizes_of_lem s t h (ap head_of e ∙ head_set _ 11 _ (omega arith) ∙ head_set _ 9 p (omega arith) ∙ put_page_head f s p _ l) z

  -- a node linked back
  pub relink_is : (t : List ℕ) (q m : ℕ) → (q ≡ 0 → t ≡ s)
      → ((q ≡ 0 → ⊥) → t ≡ replaced (node_start h q) (node_words h.theta) (linked (node_at s h q) m (forward_word (node_at s h q) 0)) s)
      → t ≡ back_linked s q m
  relink_is t q m a b =
      elim (ℕ_discrete q 0) [
        | yes e ↦ a e ∙ sym (back_null s q m e)
        | no e ↦
            b e ∙ node_put_is q (linked (node_at s h q) m (forward_word (node_at s h q) 0))
            ∙ ap (λ ws. put_node s q (linked ws m (forward_word ws 0))) (node_layout s (head_of s) h q z) ∙ sym (back_some s q m e)
      ]

-- one more is counted
last_set : (u t : List ℕ) (i v : ℕ) → i < length t → t ≡ set u i v → word t i ≡ v
last_set u t i v l e = ap (λ x. word x i) e ∙ get_or-set_same u i v 0 (omega (arith, l, ap length e, length-set u i v))

pub node_counted : (s t : List ℕ) (n : ℕ) → 16 ≤ length t → t ≡ release_node s n → word t 10 ≡ suc (word s 10)
unfolding release_node released_of
node_counted s t n l e = last_set (set (put_node s n (released_node (head_of s).theta (word s 8))) 8 n) t 10 (suc (word s 10)) (omega (arith, l)) e

pub page_counted : (f : Format) (s t : List ℕ) (p : ℕ) → 16 ≤ length t → t ≡ release_page f s p → word t 11 ≡ suc (word s 11)
unfolding release_page released_of
page_counted f s t p l e = last_set (set (put_page f s p (released_page f (head_of s).capacity (word s 9))) 9 p) t 11 (suc (word s 11)) (omega (arith, l)) e

-- a page released leaves the count of nodes
word_before : (a n : ℕ) (ys s : List ℕ) (j : ℕ) → j < a → j < length s → word (replaced a n ys s) j ≡ word s j
unfolding replaced
word_before a n ys s j p q =
    get_or-append (take a s) (ys ++ drop (a + n) s) 0 j (omega (arith, length-take a s)) ∙ get_or-take a s j 0 (omega arith)

pub page_leaves : (f : Format) (s t : List ℕ) (p : ℕ) → 16 ≤ length s → t ≡ release_page f s p → word t 10 ≡ word s 10
unfolding release_page put_page
page_leaves f s t p l e =
    let u : List ℕ = put_page f s p (released_page f (head_of s).capacity (released_of s).page) in
    ap (λ x. word x 10) e ∙ get_or-set_other (set u 9 p) 11 10 (suc (released_of s).pages) 0 (λ z. omega (arith, z))
    ∙ get_or-set_other u 9 10 p 0 (λ z. omega (arith, z))
    ∙ word_before (page_start f (head_of s) p) (page_words f (head_of s).capacity) _ s 10 (omega (arith, page_start_lem (head_of s) f p)) (omega arith)

-- the next level
module _ (θ : ℕ) (numbers blocks : List ℕ) where
  spots_next : (i n : ℕ) → i < n
      → spots_from θ numbers blocks i (n - i) ≡ spot_in θ numbers blocks i ∷ spots_from θ numbers blocks (i + 1) (n - (i + 1))
  unfolding spots_from
  spots_next i n h =
      let more : n - i ≡ suc (n - (i + 1)) = omega arith in
      let up : suc i ≡ i + 1 = omega arith in
      ap (spots_from θ numbers blocks i) more ∙ ap (λ k. spot_in θ numbers blocks i ∷ spots_from θ numbers blocks k (n - (i + 1))) up

  -- only the numbers in front are asked
  pub spots_front : (m : ℕ) → m ≤ length numbers → (k i : ℕ) → i + k ≤ m
      → spots_from θ (take m numbers) blocks i k ≡ spots_from θ numbers blocks i k
  unfolding spots_from spot_in
  spots_front m l zero i h = refl
  spots_front m l (suc k) i h =
      ap₂ (λ n xs. record { number = n; used = 0; last = 0; block = block_in θ blocks i } ∷ xs) (get_or-take m numbers i 0 (omega arith))
      (spots_front m l k (suc i) (omega arith))

  pub blocks_first : (t : List ℕ) (n : ℕ) → put_spots t (spots_from θ numbers blocks 0 (n - 0)) ≡ put_spots t (spots_from θ numbers blocks 0 n)
  blocks_first t n = let e : n - 0 ≡ n = omega arith in ap (λ k. put_spots t (spots_from θ numbers blocks 0 k)) e

  pub blocks_turn : (t t' X : List ℕ) (i n : ℕ) → i < n → t' ≡ put_node t (word numbers i) (part blocks (132 * i) (node_words θ))
      → put_spots t (spots_from θ numbers blocks i (n - i)) ≡ X → put_spots t' (spots_from θ numbers blocks (i + 1) (n - (i + 1))) ≡ X
  unfolding spot_in block_in
  blocks_turn t t' X i n h e g =
      ap (λ l. put_spots l (spots_from θ numbers blocks (i + 1) (n - (i + 1)))) e ∙ sym (ap (put_spots t) (spots_next i n h)) ∙ g

  pub blocks_out : (t X : List ℕ) (i n : ℕ) → n ≤ i → put_spots t (spots_from θ numbers blocks i (n - i)) ≡ X → t ≡ X
  unfolding spots_from
  blocks_out t X i n h g =
      let none : n - i ≡ 0 = omega arith in
      sym (ap (λ k. put_spots t (spots_from θ numbers blocks i k)) none) ∙ g

-- the numbers that are left, after the next one
module _ (xs : List ℕ) (i : ℕ) where
  numbers_next : i < length xs → drop i xs ≡ word xs i ∷ drop (i + 1) xs
  numbers_next h = let up : suc i ≡ i + 1 = omega arith in drop-cons xs i 0 h ∙ ap (λ k. word xs i ∷ drop k xs) up

  numbers_none : length xs ≤ i → drop i xs ≡ []
  numbers_none h = drop_of_length-le xs {i = i} h

  pub nodes_turn : (t t' X : List ℕ) → i < length xs → t' ≡ release_node t (word xs i)
      → release_nodes t (drop i xs) ≡ X → release_nodes t' (drop (i + 1) xs) ≡ X
  nodes_turn t t' X h e g = ap (λ s. release_nodes s (drop (i + 1) xs)) e ∙ sym (ap (release_nodes t) (numbers_next h)) ∙ g

  pub nodes_out : (t X : List ℕ) → length xs ≤ i → release_nodes t (drop i xs) ≡ X → t ≡ X
  nodes_out t X h g = sym (ap (release_nodes t) (numbers_none h)) ∙ g

  pub pages_turn : (f : Format) (t t' X : List ℕ) → i < length xs → t' ≡ release_page f t (word xs i)
      → release_pages f t (drop i xs) ≡ X → release_pages f t' (drop (i + 1) xs) ≡ X
  pages_turn f t t' X h e g = ap (λ s. release_pages f s (drop (i + 1) xs)) e ∙ sym (ap (release_pages f t) (numbers_next h)) ∙ g

  pub pages_out : (f : Format) (t X : List ℕ) → length xs ≤ i → release_pages f t (drop i xs) ≡ X → t ≡ X
  pages_out f t X h g = sym (ap (release_pages f t) (numbers_none h)) ∙ g

-- the back link, by the first carried block
module _ (s t : List ℕ) (θ : ℕ) (numbers blocks : List ℕ) (on : Bool) where
  pub back_off : on ≡ false → t ≡ s → t ≡ relinked s on (spot_in θ numbers blocks 0)
  unfolding relinked
  back_off e g = g ∙ ap (λ b. relinked s b (spot_in θ numbers blocks 0)) (sym e)

  pub back_on : on ≡ true → θ ≤ 6 → 132 ≤ length blocks → t ≡ back_linked s (word blocks 3) (word numbers 0) → t ≡ relinked s on (spot_in θ numbers blocks 0)
  unfolding relinked spot_in block_in node_words
  back_on e small long g =
      let three : word (part blocks (132 * 0) (node_words θ)) 3 ≡ word blocks 3 =
      part_word blocks 0 (node_words θ) 3 (omega (arith, node_small θ small)) (omega arith) in
      g ∙ ap (λ q. back_linked s q (word numbers 0)) (sym three) ∙ ap (λ b. relinked s b (spot_in θ numbers blocks 0)) (sym e)

-- a part that is lent to be read
pub part_lent : (s : List ℕ) (a w n : ℕ) → w ≡ n → a + n ≤ length s → take (a + w - a) (drop a s) ≡ part s a n
part_lent s a w n e h =
    let k : a + w - a ≡ n = omega arith in
    ap (λ m. take m (drop a s)) k ∙ sym (part_in_lem s a n h)

-- a page that is given back
pub page_back : (s : List ℕ) (h : Head) → SameSizes (head_of s) h → (f : Format) (p a w : ℕ) (ws vs : List ℕ) → a ≡ page_start f h p
    → w ≡ page_words f h.capacity → ws ≡ vs → take a s ++ (ws ++ drop (a + w - a) (drop a s)) ≡ put_page f s p vs
page_back s h z f p a w ws vs start size e =
    given_back s ws a w (a + w) refl ∙ ap (λ l. replaced a w l s) e ∙ ap₂ (λ x y. replaced x y vs s) start size ∙ page_put_is s h z f p vs
