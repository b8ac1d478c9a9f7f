-- The walk over the runs of one node gives the first page of the labels from there on: an array is its runs one after the other, and the
-- run after the key's own starts where the entries of the runs up to it end.
--   first_page ns == the first of the numbers that is not 0; 0 if there is none
--   Own N t k d n == the runs of t, cut behind the key's own, which ends at n
use mathlib.Core.Path.{◌≡◌, refl, sym, ap, ap₂, ◌∙◌, subst}
use mathlib.Core.Bool.{true, false}
use mathlib.Core.List.{List, [], ◌∷◌, ◌++◌, map, map-append, append_assoc, append-nil}
use Prim.Native.Nat.{ℕ, zero, suc, ◌+◌, ◌-◌, ◌*◌, ◌^◌, ◌≤◌, ◌<◌}
use native.Mathlib.Omega.{arith}
use native.Mathlib.Nat.{suc-sub-suc, sub-zero}
use lib.ListN.{length, get_or, replicate, length-append, length-replicate, get_or-replicate, get_or-append}
use lib.Pow.{pow_pos}
use Rattle.lists.specs.Bits.{index}
use Rattle.lists.proofs.BitLaws.{index_align}
use Rattle.lists.proofs.Powers.{pow_split}
use Rattle.lists.proofs.Parts.{get_d_past}
use Rattle.tree.specs.Trie.{Trie, leaf, fork, Key, height, labels, depth}
use Rattle.tree.specs.Node.{Entry, runs}
use Rattle.tree.proofs.TrieLaws.{depth_le_height}
use Rattle.tree.proofs.Flatten.{length_flatten}
use Rattle.tree.proofs.Steps.{spread, flatten_spread}
use Rattle.node.specs.Node.{depth_word, entry_of}
use Rattle.search.specs.Next.{first_pointer, run_after}
use Rattle.search.proofs.NextLaws.{Walked, walked_none, walked_end, walked_here, walked_on}
use Rattle.represent.specs.Labelled.{after}
use Rattle.represent.proofs.ImageLaws.{Shown}

abbrev pub first_page : List ℕ → ℕ
first_page [] = 0
first_page (zero ∷ ns) = first_page ns
first_page (suc n ∷ ns) = suc n

pub first_page_left : (ns ms : List ℕ) → 1 ≤ first_page ns → first_page (ns ++ ms) ≡ first_page ns
first_page_left [] ms h = absurd (omega arith)
first_page_left (zero ∷ ns) ms h = first_page_left ns ms h
first_page_left (suc n ∷ ns) ms h = refl

pub first_page_right : (ns ms : List ℕ) → first_page ns ≡ 0 → first_page (ns ++ ms) ≡ first_page ms
first_page_right [] ms h = refl
first_page_right (zero ∷ ns) ms h = first_page_right ns ms h
first_page_right (suc n ∷ ns) ms h = absurd (omega arith)

module _ {A : Type 0} where
  abbrev pointers : List (Entry A) → List A
  pointers = map (λ e. e.1)

  pointers_runs : (t : Trie A) (d : ℕ) → pointers (runs t d) ≡ labels t
  pointers_runs (leaf x) d = refl
  pointers_runs (fork l r) d =
      map-append (λ e. e.1) (runs l (suc d)) (runs r (suc d)) ∙ ap₂ ◌++◌ (pointers_runs l (suc d)) (pointers_runs r (suc d))

  spread_cons : (H : ℕ) (e : Entry A) (es : List (Entry A)) → length (spread H (e ∷ es)) ≡ 2 ^ (H - e.0) + length (spread H es)
  spread_cons H e es =
      length-append (replicate (2 ^ (H - e.0)) e) (spread H es) ∙ ap (λ n. n + length (spread H es)) (length-replicate (2 ^ (H - e.0)) e)

  spread_append : (H : ℕ) (a b : List (Entry A)) → length (spread H (a ++ b)) ≡ length (spread H a) + length (spread H b)
  spread_append H [] b = omega arith
  spread_append H (e ∷ a) b = omega (arith, spread_cons H e (a ++ b), spread_cons H e a, spread_append H a b)

  spread_runs : (H N : ℕ) (t : Trie A) (d : ℕ) → height t ≤ H → N ≡ d + H → length (spread N (runs t d)) ≡ 2 ^ H
  spread_runs H N t d p e = ap length (sym (flatten_spread H N t d p e)) ∙ length_flatten H t d

  spread_at : (H : ℕ) (a b : List (Entry A)) (e z : Entry A) → get_or (spread H (a ++ (e ∷ b))) (length (spread H a)) z ≡ e
  spread_at H [] b e z =
      get_or-append (replicate (2 ^ (H - e.0)) e) (spread H b) z 0
      (omega (arith, length-replicate (2 ^ (H - e.0)) e, pow_pos (H - e.0)))
      ∙ get_or-replicate (2 ^ (H - e.0)) 0 e z (pow_pos (H - e.0))
  spread_at H (x ∷ a) b e z =
      get_d_past (replicate (2 ^ (H - x.0)) x) (spread H (a ++ (e ∷ b))) z (length (spread H a))
      (length-append (replicate (2 ^ (H - x.0)) x) (spread H a))
      ∙ spread_at H a b e z

  record Own (N : ℕ) (t : Trie A) (k : Key) (d n : ℕ) : Type 0 where
    to : List (Entry A)
    on : List (Entry A)
    runs_are : runs t d ≡ to ++ on
    labels_are : pointers on ≡ after t k
    ends : length (spread N to) ≡ n

  own_left : (N : ℕ) (l r : Trie A) (k k' : Key) (d n m : ℕ) → after (fork l r) k' ≡ after l k ++ labels r → n ≡ m → Own N l k (suc d) n
      → Own N (fork l r) k' d m
  own_left N l r k k' d n m e q o =
      record {
        to = o.to;
        on = o.on ++ runs r (suc d);
        runs_are = ap (λ es. es ++ runs r (suc d)) o.runs_are ∙ append_assoc o.to o.on (runs r (suc d));
        labels_are =
            map-append (λ e. e.1) o.on (runs r (suc d)) ∙ ap₂ ◌++◌ o.labels_are (pointers_runs r (suc d)) ∙ sym e;
        ends = o.ends ∙ q;
      }

  own_right : (N : ℕ) (l r : Trie A) (k : Key) (d n m : ℕ) → length (spread N (runs l (suc d))) + n ≡ m → Own N r k (suc d) n
      → Own N (fork l r) (true ∷ k) d m
  own_right N l r k d n m q o =
      record {
        to = runs l (suc d) ++ o.to;
        on = o.on;
        runs_are = ap (λ es. runs l (suc d) ++ es) o.runs_are ∙ sym (append_assoc (runs l (suc d)) o.to o.on);
        labels_are = o.labels_are;
        ends = omega (arith, spread_append N (runs l (suc d)) o.to, o.ends);
      }

  own_run : (H N : ℕ) (t : Trie A) (k : Key) (d : ℕ) → height t ≤ H → N ≡ d + H
      → Own N t k d (index (depth t k) k * 2 ^ (H - depth t k) + 2 ^ (H - depth t k))
  own_run H N (leaf x) k d p e =
      record {
        to = (d, x) ∷ [];
        on = [];
        runs_are = refl;
        labels_are = refl;
        ends =
            let q : N - d ≡ H = omega arith in
            spread_cons N (d, x) [] ∙ rw (q, sub-zero H) (omega arith);
      }
  own_run zero N (fork l r) k d p e = absurd (omega arith)
  own_run (suc H) N (fork l r) [] d p e =
      own_left N l r [] [] d _ _ refl (rw suc-sub-suc) (own_run H N l [] (suc d) (omega arith) (omega arith))
  own_run (suc H) N (fork l r) (false ∷ k) d p e =
      own_left N l r k (false ∷ k) d _ _ refl (rw suc-sub-suc) (own_run H N l k (suc d) (omega arith) (omega arith))
  own_run (suc H) N (fork l r) (true ∷ k) d p e =
      let half : 2 ^ depth r k * 2 ^ (H - depth r k) ≡ 2 ^ H = pow_split (omega (arith, depth_le_height r k)) in
      own_right N l r k d _ _
      (rw (suc-sub-suc H (depth r k)) (omega (arith, spread_runs H N l (suc d) (omega arith) (omega arith))))
      (own_run H N r k (suc d) (omega arith) (omega arith))

module _ (s : List ℕ) (a θ level : ℕ) (v : Trie ℕ) (is : Shown s a θ level v) where
  abbrev H : ℕ
  H = height v

  -- the entry where a run starts
  run_entry : (done es : List (Entry ℕ)) (e : Entry ℕ) → runs v 0 ≡ done ++ (e ∷ es)
      → (length (spread H done) < 2 ^ H) × (entry_of s a (length (spread H done)) ≡ e)
  run_entry done es e q =
      let total : length (spread H done) + length (spread H (e ∷ es)) ≡ 2 ^ H =
      sym (spread_append H done (e ∷ es)) ∙ ap (λ rs. length (spread H rs)) (sym q) ∙ spread_runs H H v 0 (omega arith) (omega arith) in
      let l : length (spread H done) < 2 ^ H = omega (arith, spread_cons H e es, pow_pos (H - e.0)) in (
        l,
        is.entry (length (spread H done)) l
            ∙ ap (λ es. get_or es (length (spread H done)) (0, 0)) (flatten_spread H H v 0 (omega arith) (omega arith) ∙ ap (spread H) q)
            ∙ spread_at H done es e (0, 0),
      )

  -- the walk, when it stands behind the runs `done`
  walk : (start : ℕ) (done es : List (Entry ℕ)) → runs v 0 ≡ done ++ es → Walked s a H start (length (spread H done))
      → first_pointer s a H 64 start ≡ first_page (pointers es)
  walk start done [] q w =
      let total : length (spread H done) ≡ 2 ^ H =
      ap (λ rs. length (spread H rs)) (sym (append-nil done) ∙ sym q) ∙ spread_runs H H v 0 (omega arith) (omega arith) in
      sym (walked_end s a H w (omega arith))
  walk start done ((d, zero) ∷ es) q w =
      let at = run_entry done es (d, 0) q in
      let x : Entry ℕ = (d, 0) in
      let e : length (spread H done) + 2 ^ (H - d) ≡ length (spread H (done ++ (x ∷ []))) =
      omega (arith, spread_append H done (x ∷ []), spread_cons H x []) in
      walk start (done ++ (x ∷ [])) es (q ∙ sym (append_assoc done (x ∷ []) es))
      (subst (Walked s a H start) e
      (walked_on s a H w at.0 (sym (ap (λ x. x.1) at.1)) refl (sym (ap (λ x. x.0) at.1)) refl refl))
  walk start done ((d, suc p) ∷ es) q w =
      let at = run_entry done es (d, suc p) q in
      sym (walked_here s a H w at.0 (sym (ap (λ x. x.1) at.1)) (λ z. omega arith))

  module _ (small : θ ≤ 6) where
    -- from the start
    pub first_of_all : first_pointer s a (depth_word s a) 64 0 ≡ first_page (labels v)
    first_of_all =
        ap (λ n. first_pointer s a n 64 0) is.depth
        ∙ walk 0 [] (runs v 0) refl (walked_none s a H 0 (omega (arith, is.low)))
        ∙ ap first_page (pointers_runs v 0)

    -- from the run after the key's own, given its depth and its entry
    pub first_after : (k : Key) (d i : ℕ) → d ≡ depth v k → i ≡ index H k
        → first_pointer s a (depth_word s a) 64 (run_after (depth_word s a) d i) ≡ first_page (after v k)
    unfolding run_after
    first_after k d i ed ei =
        let o = own_run H H v k 0 (omega arith) (omega arith) in
        let start : run_after H (depth v k) (index H k) ≡ length (spread H o.to) =
        ap (λ n. n + 2 ^ (H - depth v k)) (index_align k (depth_le_height v k)) ∙ sym o.ends in
        ap₂ (λ d i. first_pointer s a (depth_word s a) 64 (run_after (depth_word s a) d i)) ed ei
        ∙ ap (λ n. first_pointer s a n 64 (run_after n (depth v k) (index H k))) is.depth
        ∙ ap (first_pointer s a H 64) start
        ∙ walk (length (spread H o.to)) o.to o.on o.runs_are
        (walked_none s a H (length (spread H o.to)) (omega (arith, is.low)))
        ∙ ap first_page o.labels_are
