-- A path by its end: the terminal node of a key and its entry there tell all that find and next need of the descent.
--   Ended k d n u      == the way d of the key k ends in node n, reached after u bits
use mathlib.Core.Path.{◌≡◌, refl, sym, ap, ap₂, ◌∙◌, subst}
use mathlib.Core.Bool.{true, false, false≢true}
use mathlib.Core.List.{List}
use Prim.Native.Nat.{ℕ, zero, suc, ◌+◌, ◌-◌, ◌*◌, ◌/◌, ◌%◌, ◌^◌, ◌≤◌}
use native.Mathlib.Omega.{arith}
use native.Mathlib.Nat.{mod-le, mod-lt}
use lib.ListN.{length, get_or, length-set, length-replicate}
use lib.Pow.{pow_pos, shr-shr, field, split}
use lib.Seq.{get_or-set_same}
use Rattle.lists.proofs.Cases.{by_cases}
use Rattle.store.specs.declared.Format.{Format}
use Rattle.store.specs.declared.Head.{Head}
use Rattle.store.specs.Format.{width}
use Rattle.store.specs.Head.{node_start}
use Rattle.node.specs.Node.{depth_word, entry_depth, entry_of, entry_number}
use Rattle.node.proofs.NodeLaws.{node_facts}
use Rattle.node.proofs.RunWalk.{RunAt, good_facts}
use Rattle.node.proofs.EntryNumber.{entry_below}
use Rattle.search.specs.declared.Step.{Step}
use Rattle.search.specs.Way.{Descent}
use Rattle.search.specs.Way.{Terminal}
use Rattle.search.specs.Descent.{no_step, no_steps, damaged_node, entry_visit, lost, step_taken, descend, descent}
use Rattle.search.specs.Descent.{sound_node, lost_terminal, terminal_from, terminal, own_visit}
use Rattle.search.specs.Next.{run_after, run_behind}
use Rattle.search.proofs.DescentLaws.{sound_facts, step_damaged, step_entry, way_step, way_end, step_lost, step_on}

-- keys that agree in more bits agree in fewer
pub fewer : (W a b k k' : ℕ) → a ≤ b → k' / 2 ^ (W - b) ≡ k / 2 ^ (W - b) → k' / 2 ^ (W - a) ≡ k / 2 ^ (W - a)
fewer W a b k k' l e =
    let m : ℕ = W - a - (W - b) in
    let d : W - a ≡ W - b + m = omega arith in
    rw (d, ← shr-shr k' (W - b) m, ← shr-shr k (W - b) m, e)

-- the code compares x and y, what two keys have before their last `low` bits: their first u bits
module _ (W u k k' : ℕ) {low x y : ℕ} (el : low ≡ W - u) (ex : x ≡ k' / 2 ^ low) (ey : y ≡ k / 2 ^ low) where
  pub alike : x ≡ y → k' / 2 ^ (W - u) ≡ k / 2 ^ (W - u)
  alike q = rw (← el) (sym ex ∙ q ∙ ey)

  pub unlike : (x ≡ y → ⊥) → k' / 2 ^ (W - u) ≡ k / 2 ^ (W - u) → ⊥
  unlike d q = d (ex ∙ rw el q ∙ sym ey)

-- the run of a key's entry is numbered by the key's next d bits
entry_run : (W k u H d : ℕ) → u + H ≤ W → d ≤ H → entry_number W k u H / 2 ^ (H - d) ≡ k / 2 ^ (W - (u + d)) % 2 ^ d
unfolding entry_number
entry_run W k u H d fits l =
    let m : ℕ = H - d in
    let e_h : H ≡ d + m = omega arith in
    let e_w : W - u - H + m ≡ W - (u + d) = omega arith in
    ap (λ x. k / 2 ^ (W - u - H) % 2 ^ x / 2 ^ m) e_h
    ∙ field (k / 2 ^ (W - u - H)) d m
    ∙ ap (λ x. x % 2 ^ d) (shr-shr k (W - u - H) m ∙ ap (λ x. k / 2 ^ x) e_w)

-- keys that agree in their first u + d bits have entries in one aligned run of 2^(H − d)
run_shared : (W k k' u H d : ℕ) → u + H ≤ W → d ≤ H → k' / 2 ^ (W - (u + d)) ≡ k / 2 ^ (W - (u + d))
    → entry_number W k' u H - entry_number W k' u H % 2 ^ (H - d) ≡ entry_number W k u H - entry_number W k u H % 2 ^ (H - d)
run_shared W k k' u H d fits l e =
    let same = entry_run W k' u H d fits l ∙ ap (λ x. x % 2 ^ d) e ∙ sym (entry_run W k u H d fits l) in
    omega (
      arith,
      split (entry_number W k' u H) (H - d),
      split (entry_number W k u H) (H - d),
      ap (λ x. x * 2 ^ (H - d)) same,
    )

module _ (f : Format) (s : List ℕ) (h : Head) where
  -- at a sound node: its block, its depth, and the entries of two keys
  module _ (k k' level n u : ℕ) (e : sound_node f s h level n u ≡ true) where
    abbrev at : ℕ
    at = node_start h n

    abbrev deep : ℕ
    deep = depth_word s at

    abbrev one : ℕ
    one = entry_number (width f) k u deep

    abbrev other : ℕ
    other = entry_number (width f) k' u deep

    run : RunAt deep (entry_of s at) one
    run = (good_facts _ _ _ _ (node_facts h s at level (sound_facts f s h level n u e).0).runs).rule one (entry_below (width f) k u deep)

    module _ (a : k' / 2 ^ (width f - (u + entry_depth s at one)) ≡ k / 2 ^ (width f - (u + entry_depth s at one))) where
      abbrev long : ℕ
      long = 2 ^ (deep - entry_depth s at one)

      start_same : other - other % long ≡ one - one % long
      start_same = run_shared (width f) k k' u deep (entry_depth s at one) (sound_facts f s h level n u e).1 run.0 a

      entry_same : entry_of s at other ≡ entry_of s at one
      entry_same =
          let there : one - one % long + other % long ≡ other = omega (arith, start_same, mod-le other long) in
          ap (entry_of s at) (sym there) ∙ run.1 (other % long) (mod-lt other (pow_pos (deep - entry_depth s at one)))

    -- keys that agree in the bits used after the node have the same depth and pointer there
    pub node_same : k' / 2 ^ (width f - (u + (own_visit f s h k n u).depth)) ≡ k / 2 ^ (width f - (u + (own_visit f s h k n u).depth))
        → ((own_visit f s h k' n u).depth ≡ (own_visit f s h k n u).depth)
        × ((own_visit f s h k' n u).pointer ≡ (own_visit f s h k n u).pointer)
    unfolding own_visit entry_visit
    node_same a = let p = entry_same a in (ap (λ x. x.0) p, ap (λ x. x.1) p)

    -- and the same run behind
    pub behind_same : k' / 2 ^ (width f - (u + (own_visit f s h k n u).depth)) ≡ k / 2 ^ (width f - (u + (own_visit f s h k n u).depth))
        → run_behind s h n (own_visit f s h k' n u).depth (own_visit f s h k' n u).entry
        ≡ run_behind s h n (own_visit f s h k n u).depth (own_visit f s h k n u).entry
    unfolding own_visit entry_visit run_after
    behind_same a =
        ap (λ x. other - other % 2 ^ (deep - x.0) + 2 ^ (deep - x.0)) (entry_same a)
        ∙ ap (λ x. x + 2 ^ (deep - entry_depth s at one)) (start_same a)

  module _ (k : ℕ) where
    -- one turn of the descent, and of the way to the terminal node
    module _ (l n used : ℕ) (e : sound_node f s h (suc l) n used ≡ true) where
      descend_on : (steps : List Step) → descend f s h k (suc l) n used steps
          ≡ descend f s h k l (own_visit f s h k n used).pointer (used + (own_visit f s h k n used).depth)
          (step_taken steps l n used (own_visit f s h k n used))
      unfolding own_visit entry_visit
      descend_on steps = sym (step_on f s h k l n used steps _ (step_entry f s h k (suc l) n used e) refl)

    module _ (l n used : ℕ) (e : sound_node f s h (suc l) n used ≡ false) where
      descend_lost : (steps : List Step) → descend f s h k (suc l) n used steps ≡ lost
      unfolding damaged_node
      descend_lost steps = sym (step_lost f s h k l n used steps _ (step_damaged f s h k (suc l) n used e) refl)

    pub terminal_here : (n used : ℕ) → sound_node f s h 1 n used ≡ true
        → terminal_from f s h k 0 n used ≡ record { ok = true; node = n; used = used }
    unfolding terminal_from
    terminal_here n used e = rw (e, terminal_from)

    pub terminal_on : (l n used : ℕ) → sound_node f s h (suc (suc l)) n used ≡ true → terminal_from f s h k (suc l) n used
        ≡ terminal_from f s h k l (own_visit f s h k n used).pointer (used + (own_visit f s h k n used).depth)
    unfolding own_visit entry_visit
    terminal_on l n used e = sym (way_step f s h k l n used _ (step_entry f s h k (suc (suc l)) n used e) refl)

    terminal_lost : (l n used : ℕ) → sound_node f s h (suc l) n used ≡ false → terminal_from f s h k l n used ≡ lost_terminal
    unfolding terminal_from damaged_node
    terminal_lost zero n used e = rw (e, terminal_from)
    terminal_lost (suc l) n used e = sym (way_end f s h k l n used _ (step_damaged f s h k (suc (suc l)) n used e) refl)

    -- a way with an end starts at a sound node
    pub starts : (l n used : ℕ) → (terminal_from f s h k l n used).ok ≡ true → sound_node f s h (suc l) n used ≡ true
    unfolding lost_terminal
    starts l n used o =
        by_cases (sound_node f s h (suc l) n used) (λ e. e)
        (λ e. absurd (false≢true (sym (ap (λ t. t.ok) (terminal_lost l n used e)) ∙ o)))

    -- both are lost together
    lost_ok : (l n used : ℕ) (steps : List Step) → sound_node f s h (suc l) n used ≡ false
        → (descend f s h k (suc l) n used steps).ok ≡ (terminal_from f s h k l n used).ok
    unfolding lost lost_terminal
    lost_ok l n used steps e = ap (λ d. d.ok) (descend_lost l n used e steps) ∙ sym (ap (λ t. t.ok) (terminal_lost l n used e))

    same_ok : (l n used : ℕ) (steps : List Step) → (descend f s h k (suc l) n used steps).ok ≡ (terminal_from f s h k l n used).ok
    unfolding descend
    same_ok zero n used steps =
        by_cases (sound_node f s h 1 n used)
        (λ e. ap (λ d. d.ok) (descend_on 0 n used e steps) ∙ sym (ap (λ t. t.ok) (terminal_here n used e)))
        (lost_ok 0 n used steps)
    same_ok (suc l) n used steps =
        by_cases (sound_node f s h (suc (suc l)) n used)
        (λ e. ap (λ d. d.ok) (descend_on (suc l) n used e steps) ∙ same_ok l _ _ _ ∙ sym (ap (λ t. t.ok) (terminal_on l n used e)))
        (lost_ok (suc l) n used steps)

    -- what a descent has at its end
    pub record Ended (d : Descent) (n u : ℕ) : Type 0 where
      pub page : d.page ≡ (own_visit f s h k n u).pointer
      pub used : d.used ≡ u + (own_visit f s h k n u).depth
      pub step : get_or d.steps 0 no_step
          ≡ record { node = n; entry = (own_visit f s h k n u).entry; depth = (own_visit f s h k n u).depth; used = u }

    abbrev EndedAt : Descent → Terminal → Type 0
    EndedAt d t = Ended d t.node t.used

    ended_from : (l n used : ℕ) (steps : List Step) → suc l ≤ length steps → (terminal_from f s h k l n used).ok ≡ true
        → EndedAt (descend f s h k (suc l) n used steps) (terminal_from f s h k l n used)
    unfolding descend step_taken
    ended_from zero n used steps fits o =
        let e = starts 0 n used o in
        rw (terminal_here n used e, descend_on 0 n used e steps)
        record { page = refl; used = refl; step = get_or-set_same steps 0 _ no_step fits }
    ended_from (suc l) n used steps fits o =
        let e = starts (suc l) n used o in
        let more = step_taken steps (suc l) n used (own_visit f s h k n used) in
        rw (terminal_on l n used e, descend_on (suc l) n used e steps)
        (ended_from l _ _ more (rw length-set (omega arith)) (rw (terminal_on l n used e) at o))

    sound_from : (l n used : ℕ) → (terminal_from f s h k l n used).ok ≡ true
        → sound_node f s h 1 (terminal_from f s h k l n used).node (terminal_from f s h k l n used).used ≡ true
    sound_from zero n used o = let e = starts 0 n used o in rw (terminal_here n used e) e
    sound_from (suc l) n used o =
        let e = starts (suc l) n used o in
        rw (terminal_on l n used e) (sound_from l _ _ (rw (terminal_on l n used e) at o))

    module _ (low : 1 ≤ h.levels) where
      down : suc (h.levels - 1) ≡ h.levels
      down = omega arith

      -- the descent is lost exactly where the terminal node is
      pub terminal_ok : (descent f s h k).ok ≡ (terminal f s h k).ok
      unfolding descent terminal
      terminal_ok =
          ap (λ l. (descend f s h k l h.root 0 no_steps).ok) (sym down) ∙ same_ok (h.levels - 1) h.root 0 no_steps

      -- the descent ends in the terminal node
      pub terminal_ended : h.levels ≤ 32 → (terminal f s h k).ok ≡ true
          → Ended (descent f s h k) (terminal f s h k).node (terminal f s h k).used
      unfolding descent terminal no_steps
      terminal_ended high o =
          subst (λ l. EndedAt (descend f s h k l h.root 0 no_steps) (terminal f s h k)) down
          (ended_from (h.levels - 1) h.root 0 no_steps (rw length-replicate (omega arith)) o)

    -- the terminal node keeps the rules of one
    pub terminal_sound : (terminal f s h k).ok ≡ true → sound_node f s h 1 (terminal f s h k).node (terminal f s h k).used ≡ true
    unfolding terminal
    terminal_sound o = sound_from (h.levels - 1) h.root 0 o

    -- no bit is given back
    used_grows : (l n used : ℕ) → (terminal_from f s h k l n used).ok ≡ true → used ≤ (terminal_from f s h k l n used).used
    used_grows zero n used o = rw (terminal_here n used (starts 0 n used o)) (omega arith)
    used_grows (suc l) n used o =
        let e = terminal_on l n used (starts (suc l) n used o) in
        rw e (omega (arith, used_grows l _ _ (rw e at o)))

    -- a descent that met damage has nothing else
    lost_from : (l n used : ℕ) (steps : List Step) → (descend f s h k l n used steps).ok ≡ false → descend f s h k l n used steps ≡ lost
    unfolding descend
    lost_from zero n used steps o = absurd (false≢true (sym o))
    lost_from (suc l) n used steps o =
        by_cases (sound_node f s h (suc l) n used)
        (λ e. descend_on l n used e steps ∙ lost_from l _ _ _ (sym (ap (λ d. d.ok) (descend_on l n used e steps)) ∙ o))
        (λ e. descend_lost l n used e steps)

    pub lost_is : (descent f s h k).ok ≡ false → descent f s h k ≡ lost
    unfolding descent
    lost_is o = lost_from h.levels h.root 0 no_steps o

  -- keys that agree in the bits used before the terminal node of the first have the same terminal node
  same_from : (k k' l n used : ℕ) → (terminal_from f s h k l n used).ok ≡ true
      → k' / 2 ^ (width f - (terminal_from f s h k l n used).used) ≡ k / 2 ^ (width f - (terminal_from f s h k l n used).used)
      → terminal_from f s h k' l n used ≡ terminal_from f s h k l n used
  same_from k k' zero n used o a = let e = starts k 0 n used o in terminal_here k' n used e ∙ sym (terminal_here k n used e)
  same_from k k' (suc l) n used o a =
      let e = starts k (suc l) n used o in
      let v = own_visit f s h k n used in
      let on = terminal_on k l n used e in
      let o' = rw on at o in
      let a' = rw on at a in
      let m = node_same k k' (suc (suc l)) n used e (fewer (width f) (used + v.depth) _ k k' (used_grows k l _ _ o') a') in
      terminal_on k' l n used e
      ∙ ap₂ (λ p d. terminal_from f s h k' l p (used + d)) m.1 m.0
      ∙ same_from k k' l v.pointer (used + v.depth) o' a'
      ∙ sym on

  pub terminal_same : (k k' : ℕ) → (terminal f s h k).ok ≡ true
      → k' / 2 ^ (width f - (terminal f s h k).used) ≡ k / 2 ^ (width f - (terminal f s h k).used)
      → terminal f s h k' ≡ terminal f s h k
  unfolding terminal
  terminal_same k k' o a = same_from k k' (h.levels - 1) h.root 0 o a
