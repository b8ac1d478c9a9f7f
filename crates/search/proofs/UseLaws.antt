-- The terminal node of a key is in use and keeps the node rule.
use mathlib.Core.Path.{◌≡◌, refl, sym, ap, ◌∙◌}
use mathlib.Core.Bool.{true, false}
use mathlib.Core.List.{List}
use Prim.Native.Nat.{ℕ, zero, suc, ◌+◌, ◌-◌, ◌≤◌}
use native.Mathlib.Omega.{arith}
use Rattle.store.specs.declared.Format.{Format}
use Rattle.store.specs.declared.Head.{Head}
use Rattle.store.specs.Format.{width}
use Rattle.store.specs.Head.{node_start, InUse, Under}
use Rattle.node.specs.Node.{depth_word}
use Rattle.search.specs.Way.{Visit}
use Rattle.search.specs.Way.{Terminal}
use Rattle.search.specs.Descent.{lost, no_steps, descent, end_of, sound_node, terminal_from, terminal, own_visit, TerminalNode}
use Rattle.search.proofs.BlockLaws.{under_levels, root_in_use}
use Rattle.search.proofs.DescentLaws.{sound_facts, node_deep, node_bits, own_bits, own_in_use}
use Rattle.search.proofs.TerminalLaws.{starts, terminal_here, terminal_on, terminal_sound, terminal_ok, terminal_ended, lost_is}

module _ (f : Format) (s : List ℕ) (h : Head) (k : ℕ) where
  in_use_from : (l n used : ℕ) → InUse h n → (terminal_from f s h k l n used).ok ≡ true → InUse h (terminal_from f s h k l n used).node
  in_use_from zero n used i o = rw (terminal_here f s h k n used (starts f s h k 0 n used o)) i
  in_use_from (suc l) n used i o =
      let e = starts f s h k (suc l) n used o in
      rw (terminal_on f s h k l n used e)
      (in_use_from l _ _ (own_in_use f s h k (suc (suc l)) n used e (omega arith)) (rw (terminal_on f s h k l n used e) at o))

  pub terminal_in_use : Under f s h → (terminal f s h k).ok ≡ true → InUse h (terminal f s h k).node
  unfolding terminal
  terminal_in_use u o = in_use_from (h.levels - 1) h.root 0 (root_in_use u) o

  pub terminal_node : Under f s h → (terminal f s h k).ok ≡ true → TerminalNode h s (terminal f s h k).node
  terminal_node u o =
      record {
        in_use = terminal_in_use u o;
        rule = (sound_facts f s h 1 (terminal f s h k).node (terminal f s h k).used (terminal_sound f s h k o)).0;
      }

  -- the terminal node as the code has it, t
  module _ (u : Under f s h) {t : Terminal} (e : t ≡ terminal f s h k) (o : t.ok ≡ true) where
    at_sound : sound_node f s h 1 t.node t.used ≡ true
    at_sound = rw e (terminal_sound f s h k (rw e at o))

    pub at_node : TerminalNode h s t.node
    at_node = rw e (terminal_node u (rw e at o))

    -- what is asked for the key's entry in it
    pub at_asked : Under f s h × InUse h t.node × (depth_word s (node_start h t.node) ≤ h.theta)
        × (t.used + depth_word s (node_start h t.node) ≤ width f)
    at_asked = (u, at_node.in_use, node_deep f s h k 1 t.node t.used at_sound, node_bits f s h k 1 t.node t.used at_sound)

    -- an entry of it uses up no more bits than a key x has
    pub at_bits : (x : ℕ) {v : Visit} → v ≡ own_visit f s h x t.node t.used → t.used + v.depth ≤ width f
    at_bits x ev = rw ev (own_bits f s h x 1 t.node t.used at_sound)

-- the end of the descent: t is the terminal node, v the key's entry there
pub record Landed (f : Format) (s : List ℕ) (h : Head) (k : ℕ) (t : Terminal) (v : Visit) : Type 0 where
  pub ok : (descent f s h k).ok ≡ true
  pub page : (descent f s h k).page ≡ v.pointer
  pub used : (descent f s h k).used ≡ t.used + v.depth
  pub bits : t.used + v.depth ≤ width f

pub landed : {f : Format} {s : List ℕ} {h : Head} (u : Under f s h) (k : ℕ) {t : Terminal} → t ≡ terminal f s h k → t.ok ≡ true
    → {v : Visit} → v ≡ own_visit f s h k t.node t.used → Landed f s h k t v
landed {f} {s} {h} u k e o p =
    let l = under_levels u in
    let ok = sym (ap (λ x. x.ok) e) ∙ o in
    let d = terminal_ended f s h k l.0 l.1 ok in
    rw (p, e)
    record {
      ok = terminal_ok f s h k l.0 ∙ ok;
      page = d.page;
      used = d.used;
      bits = at_bits f s h k u refl ok k refl;
    }

-- where it ends, as the code has it
pub end_is : {f : Format} {s : List ℕ} {h : Head} (u : Under f s h) (k : ℕ) {t : Terminal} → t ≡ terminal f s h k → t.ok ≡ true
    → {v : Visit} → v ≡ own_visit f s h k t.node t.used
    → record { ok = true; node = t.node; before = t.used; page = v.pointer; used = t.used + v.depth } ≡ end_of (descent f s h k)
end_is {f} {s} {h} u k e o p =
    let l = under_levels u in
    let ok = sym (ap (λ x. x.ok) e) ∙ o in
    let d = terminal_ended f s h k l.0 l.1 ok in
    rw (p, e) (rw (d.step, d.page, d.used, terminal_ok f s h k l.0, ok) refl)

pub end_lost : {f : Format} {s : List ℕ} {h : Head} (u : Under f s h) (k : ℕ) {t : Terminal} → t ≡ terminal f s h k → t.ok ≡ false
    → record { ok = false; node = 0; before = 0; page = 0; used = 0 } ≡ end_of (descent f s h k)
unfolding lost no_steps
end_lost {f} {s} {h} u k e o =
    let l = under_levels u in
    sym (ap end_of (lost_is f s h k (terminal_ok f s h k l.0 ∙ sym (ap (λ x. x.ok) e) ∙ o)))
