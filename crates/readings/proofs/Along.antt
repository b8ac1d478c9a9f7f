-- What next and range find behind a key's own page: the nodes of level 1 stand for the pages in key order, and from the run after the key's
-- own, run by run and link by link, the first pointer that is not null is the first page behind the key's.
--   Chained P ns ls == P holds of each of the numbers ns and a trie, and the labels of these tries, one after the other, are ls
--   page_or_past p     == the page p is reached; 0 stands for none
--   own_step f b0 b k == the first step of the descent with k
use mathlib.Core.Path.{◌≡◌, refl, sym, ap, ◌∙◌, subst}
use mathlib.Core.Bool.{Bool, true, false}
use mathlib.Core.List.{List, [], ◌∷◌, ◌++◌, append_assoc, append-nil}
use Prim.Native.Nat.{ℕ, zero, suc, ◌-◌, ◌^◌, ◌≤◌, ◌<◌}
use native.Mathlib.Omega.{arith}
use native.Mathlib.Numerals.{add-one}
use native.Mathlib.Decide.{dec_le}
use lib.ListN.{length, get_or, length-append}
use borrow.Author.Tests.{eq-eqb}
use Rattle.lists.specs.Lists.{All}
use Rattle.lists.specs.Bits.{bits}
use Rattle.lists.proofs.ListLaws.{all_both}
use Rattle.tree.specs.Trie.{Trie, leaf, fork, Key, height, labels, leaf_at, depth, rest}
use Rattle.store.specs.declared.Format.{Format}
use Rattle.store.specs.declared.Head.{Head}
use Rattle.store.specs.Format.{width}
use Rattle.store.specs.Head.{head_of, node_start, node_at}
use Rattle.node.specs.Node.{depth_word, node_rule, entry_number}
use Rattle.store.proofs.HeadLaws.{sizes_limits}
use Rattle.search.specs.declared.Step.{Step}
use Rattle.search.specs.Way.{Reached}
use Rattle.search.specs.Way.{Page, Past}
use Rattle.search.specs.Descent.{no_step, descent}
use Rattle.search.specs.Next.{run_after, linked, pointer_from, reach, visited, behind, after_own}
use Rattle.search.proofs.NextLaws.{onward_none, onward_goes, hop_ends, hop_onward, reach_ends, reach_on}
use Rattle.represent.specs.Labelled.{occs, Over, under, before, after, first, Linked}
use Rattle.represent.specs.Image.{NodeIs}
use Rattle.represent.specs.Rep.{Stretch, numbers, Rep}
use Rattle.represent.specs.Promises.{RulesAbove}
use Rattle.represent.proofs.LabelLaws.{label_low, occ_at, labels_at, over_map, depth_under, each_after, each_of}
use Rattle.represent.proofs.ImageLaws.{Shown}
use Rattle.represent.proofs.RepLaws.{rep_shown}
use Rattle.represent.proofs.DescentVisits.{height_relabel, entry_rest, own_shown, own_room, descent_is}
use Rattle.represent.proofs.Links.{back_at, forward_at, rep_next, rep_after}
use Rattle.represent.proofs.Counting.{length_labels, rep_leaves}
use Rattle.readings.proofs.Runs.{first_page, first_page_left, first_page_right, first_of_all, first_after}

module _ {A : Type 0} (P : ℕ → Trie A → Type 0) where
  abbrev Chained : List ℕ → List A → Type 0
  Chained [] ls = ls ≡ []
  Chained (n ∷ ns) ls = (v : Trie A) × P n v × ((ks : List A) × (ls ≡ labels v ++ ks) × Chained ns ks)

  chained_join : (ns ms : List ℕ) (ls ks : List A) → Chained ns ls → Chained ms ks → Chained (ns ++ ms) (ls ++ ks)
  chained_join [] ms ls ks c d = subst (λ x. Chained ms (x ++ ks)) (sym c) d
  chained_join (n ∷ ns) ms ls ks c d = (
    c.0,
    c.1,
    (
      c.2.0 ++ ks,
      ap (λ x. x ++ ks) c.2.1 ∙ append_assoc (labels c.0) c.2.0 ks,
      chained_join ns ms c.2.0 ks c.2.2 d,
    ),
  )

  over_chained : (b : Trie ℕ) (u : Trie A) → Over P b u → Chained (labels b) (labels u)
  over_chained (leaf n) u h = (u, h, ([], sym (append-nil (labels u)), refl))
  over_chained (fork l r) (leaf x) h = absurd h
  over_chained (fork l r) (fork ul ur) h =
      chained_join (labels l) (labels r) (labels ul) (labels ur) (over_chained l ul h.0) (over_chained r ur h.1)

  -- xs is ys and then what the nodes ns stand for
  abbrev Followed : List A → List A → List ℕ → Type 0
  Followed xs ys ns = (ls : List A) × (xs ≡ ys ++ ls) × Chained ns ls

  followed_more : (xs ys : List A) (ns : List ℕ) (b : Trie ℕ) (u : Trie A) → Over P b u → Followed xs ys ns
      → Followed (xs ++ labels u) ys (ns ++ labels b)
  followed_more xs ys ns b u h w = (
    w.0 ++ labels u,
    ap (λ x. x ++ labels u) w.1 ∙ append_assoc ys w.0 (labels u),
    chained_join ns (labels b) w.0 (labels u) w.2 (over_chained b u h),
  )

  -- what comes after the key: the rest under its own label, then what is under the labels after it
  after_over : (b : Trie ℕ) (u : Trie A) (k : Key) → Over P b u → Followed (after u k) (after (under b u k) (rest b k)) (after b k)
  after_over (leaf n) u k h = ([], sym (append-nil (after u k)), refl)
  after_over (fork l r) (leaf x) k h = absurd h
  after_over (fork l r) (fork ul ur) [] h =
      followed_more _ (after (under l ul []) (rest l [])) (after l []) r ur h.1 (after_over l ul [] h.0)
  after_over (fork l r) (fork ul ur) (false ∷ k) h =
      followed_more _ (after (under l ul k) (rest l k)) (after l k) r ur h.1 (after_over l ul k h.0)
  after_over (fork l r) (fork ul ur) (true ∷ k) h = after_over r ur k h.1

abbrev pub page_or_past : ℕ → Reached
page_or_past zero = Past
page_or_past (suc p) = Page (suc p)

page_some : (p : ℕ) → 1 ≤ p → Page p ≡ page_or_past p
page_some zero q = absurd (omega arith)
page_some (suc p) q = refl

-- the nodes of level 1, in place
module _ (s : List ℕ) where
  abbrev h : Head
  h = head_of s

  abbrev ShownAt : ℕ → Trie ℕ → Type 0
  ShownAt n v = Shown s (node_start h n) h.theta 1 v

  abbrev Passes : ℕ → Type 0
  Passes n = (1 ≤ n) × (node_rule h s (node_start h n) 1 ≡ true)

  is_linked : (m n : ℕ) → Passes m → back_at s m ≡ n → linked h s m n ≡ true
  unfolding linked
  is_linked m n w e = rw (w.1, eq-eqb (back_at s m) n e)

  -- one hop, from entry i of node n on, where the pointers xs come next: to the first of them that is not null, else to the next node
  module _ (left n i : ℕ) (xs ls : List ℕ) (e : pointer_from s h n i ≡ first_page xs) where
    hop_found : 1 ≤ first_page xs → reach s h (suc left) n i ≡ page_or_past (first_page (xs ++ ls))
    hop_found q =
        reach_ends s h left n i (Page (first_page xs)) (sym (hop_ends s h n i left (sym e) (λ z. omega arith)))
        ∙ page_some (first_page xs) q
        ∙ ap page_or_past (sym (first_page_left xs ls q))

    hop_last : first_page xs ≡ 0 → forward_at s n ≡ 0 → ls ≡ [] → reach s h (suc left) n i ≡ page_or_past (first_page (xs ++ ls))
    hop_last z last none =
        reach_ends s h left n i Past (sym (onward_none h s n left refl last ∙ hop_onward s h n i left (sym e) z))
        ∙ ap page_or_past (sym (first_page_right xs ls z ∙ ap first_page none))

    hop_next : (m : ℕ) → first_page xs ≡ 0 → forward_at s n ≡ m → Passes m → back_at s m ≡ n → 1 ≤ left
        → reach s h left m 0 ≡ page_or_past (first_page ls)
        → reach s h (suc left) n i ≡ page_or_past (first_page (xs ++ ls))
    hop_next m z next pass back room goes =
        reach_on s h left n i m
        (sym (onward_goes h s n left (sym next) (λ y. omega (arith, pass.0)) (λ y. omega arith) (is_linked m n pass back)
        ∙ hop_onward s h n i left (sym e) z))
        ∙ goes
        ∙ ap page_or_past (sym (first_page_right xs ls z))

  -- hop by hop, along the nodes ns behind node n
  along : h.theta ≤ 6 → (left n i : ℕ) (ns xs ls : List ℕ) → pointer_from s h n i ≡ first_page xs → forward_at s n ≡ first ns
      → Linked (back_at s) (forward_at s) n ns → All Passes ns → Chained ShownAt ns ls → length ns ≤ left
      → reach s h (suc left) n i ≡ page_or_past (first_page (xs ++ ls))
  along small left n i [] xs ls e next links pass ch room =
      elim (dec_le 1 (first_page xs)) [
        | yes q ↦ hop_found left n i xs ls e q
        | no q ↦ hop_last left n i xs ls e (omega arith) next ch
      ]
  along small zero n i (m ∷ ns) xs ls e next links pass ch room = absurd (omega arith)
  along small (suc left) n i (m ∷ ns) xs ls e next links pass ch room =
      elim (dec_le 1 (first_page xs)) [
        | yes q ↦ hop_found (suc left) n i xs ls e q
        | no q ↦
            hop_next (suc left) n i xs ls e m (omega arith) next pass.0 links.0 (omega arith)
            (along small left m 0 ns (labels ch.0) ch.2.0 (first_of_all s _ _ 1 ch.0 ch.1 small)
            links.1 links.2 pass.1
            ch.2.2 (omega arith)
            ∙ ap (λ ks. page_or_past (first_page ks)) (sym ch.2.1))
      ]

abbrev pub own_step : Format → Trie Stretch → Trie ℕ → ℕ → Step
own_step f b0 b k =
    record {
      node = leaf_at b (bits (width f) k);
      entry = entry_number (width f) k (depth b (bits (width f) k)) (height (under b (numbers b0) (bits (width f) k)));
      depth = depth (numbers b0) (bits (width f) k) - depth b (bits (width f) k);
      used = depth b (bits (width f) k);
    }

module _ (f : Format) (s : List ℕ) (b0 : Trie Stretch) (b : Trie ℕ) (bs : List (Trie ℕ)) (r : Rep f s b0 (b ∷ bs))
    (pass : RulesAbove (head_of s) s 0 (b ∷ bs)) (deep : height b0 ≤ width f) (k : ℕ) (low : k < 2 ^ width f) where
  abbrev key : Key
  key = bits (width f) k

  abbrev step : Step
  step = own_step f b0 b k

  abbrev u : Trie ℕ
  u = numbers b0

  abbrev Shows : ℕ → Trie ℕ → Type 0
  Shows n v = NodeIs (head_of s).theta (node_at s (head_of s) n) 1 v

  over : Over Shows b u
  over = r.directory.nodes.0

  small : (head_of s).theta ≤ 6
  small = (sizes_limits _ _ _ _ r.sized.sizes).theta

  tall : height u ≤ width f
  tall = omega (arith, height_relabel (λ (x : Stretch). x.0) b0)

  labelled : 1 ≤ occs (leaf_at b key) (b ∷ bs)
  labelled = omega (arith, occ_at b key)

  shown : Over (ShownAt s) b u
  shown = over_map Shows (ShownAt s) b u (λ n v o is. rep_shown f s b0 (b ∷ bs) r n 1 v (omega arith) is) over

  few : length (after b key) ≤ (head_of s).nodes_taken
  few =
      omega (
        arith,
        rep_leaves f s b0 b bs r,
        length_labels b,
        ap length (labels_at b key),
        length-append (before b key) (leaf_at b key ∷ after b key),
      )

  -- where the run after the key's own starts
  abbrev start : ℕ
  start = run_after (depth_word s (node_start (head_of s) (leaf_at b key))) step.depth step.entry

  own_pointer : pointer_from s (head_of s) (leaf_at b key) start ≡ first_page (after (under b u key) (rest b key))
  own_pointer =
      first_after s _ _ 1 (under b u key) (own_shown f s b0 (b ∷ bs) r k low 0 b u over labelled tall) small (rest b key) _ _
      (omega (arith, depth_under Shows b u key over))
      (entry_rest b (width f) k (height (under b u key)) (own_room f s b0 (b ∷ bs) r k low 0 b u over labelled tall) low)

  passing : All (Passes s) (after b key)
  passing =
      all_both (λ n. 1 ≤ n) (λ n. node_rule (head_of s) s (node_start (head_of s) n) 1 ≡ true) (Passes s) (after b key) (λ n p q. (p, q))
      (each_after _ b key (each_of _ b (λ n o. label_low (b ∷ bs) n r.directory.positive (omega arith))))
      (each_after _ b key pass.0)

  behind_own : behind s (head_of s) (leaf_at b key) step.depth step.entry ≡ page_or_past (first_page (after u key))
  unfolding behind
  behind_own =
      let w = after_over (ShownAt s) b u key shown in
      ap (λ n. reach s (head_of s) n (leaf_at b key) start) (add-one (head_of s).nodes_taken)
      ∙ along s small (head_of s).nodes_taken (leaf_at b key) start (after b key) (after (under b u key) (rest b key)) w.0 own_pointer
      (rep_next f s b0 b bs r key) (rep_after f s b0 b bs r key) passing w.2 few
      ∙ ap (λ xs. page_or_past (first_page xs)) (sym w.1)

  -- as it stands in the descent
  pub after_descent : (strict : Bool)
      → after_own f s (head_of s) strict k (get_or (descent f s (head_of s) k).steps 0 no_step)
      ≡ visited f s (head_of s) strict k (page_or_past (first_page (after (numbers b0) (bits (width f) k))))
  unfolding after_own
  after_descent strict =
      ap (λ d. after_own f s (head_of s) strict k (get_or d.steps 0 no_step)) (descent_is f s b0 (b ∷ bs) r k low pass deep)
      ∙ ap (visited f s (head_of s) strict k) behind_own
