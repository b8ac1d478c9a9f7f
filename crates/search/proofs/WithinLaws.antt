-- Next within a page: the way of any key that agrees with k in all used bits leads to the page of k, so next from the key of a record is
-- the record after it, where its page has one.
--   end, own == the terminal node of k, and the entry of k in it
use mathlib.Core.Path.{◌≡◌, refl, sym, ap, ◌∙◌}
use mathlib.Core.Bool.{true}
use mathlib.Core.List.{List}
use Prim.Native.Nat.{ℕ, ◌+◌, ◌-◌, ◌/◌, ◌^◌, ◌≤◌, ◌<◌}
use native.Mathlib.Omega.{arith}
use borrow.Author.Tests.{lt-ltb, le-ltb}
use Rattle.lists.proofs.Tests.{and_true}
use Rattle.store.specs.declared.Format.{Format}
use Rattle.store.specs.declared.Head.{Head}
use Rattle.store.specs.Format.{width}
use Rattle.store.specs.Head.{page_at}
use Rattle.page.specs.Page.{count, item_at, key_at, page_rule, agrees, above, first_above}
use Rattle.page.proofs.Laws.{rises, rule_facts, agrees_facts, facts_agrees, first_is}
use Rattle.search.specs.Way.{Visit}
use Rattle.search.specs.Way.{Terminal}
use Rattle.search.specs.Way.{Record}
use Rattle.search.specs.Descent.{descent, terminal, own_visit}
use Rattle.search.specs.Find.{sound_page}
use Rattle.search.specs.Next.{next_of}
use Rattle.search.proofs.FindLaws.{Led}
use Rattle.search.proofs.FromLaws.{from_found}
use Rattle.search.proofs.TerminalLaws.{fewer, Ended, terminal_ok, terminal_ended, terminal_sound, terminal_same, node_same}

-- above the key of a record stands the record after it
pub first_after : (f : Format) (C : ℕ) (pg : List ℕ) (i : ℕ) → page_rule f C pg ≡ true → i < count pg
    → first_above f pg true (key_at f pg i) ≡ i + 1
unfolding above
first_after f C pg i e l =
    let o = (rule_facts f C pg e).order in
    sym
    (first_is f pg true (key_at f pg i) (i + 1)
    record {
      within = omega arith;
      before = λ j q.
          le-ltb (key_at f pg i) (key_at f pg j) (rises f pg (count pg) o j i (omega arith) l);
      found = λ q. lt-ltb (key_at f pg i) (key_at f pg (i + 1)) (o.ascends i (i + 1) (omega arith) q);
    })

module _ (f : Format) (s : List ℕ) (h : Head) where
  module _ (k : ℕ) (low : 1 ≤ h.levels) (high : h.levels ≤ 32) (o : (terminal f s h k).ok ≡ true) where
    abbrev end : Terminal
    end = terminal f s h k

    abbrev own : Visit
    own = own_visit f s h k end.node end.used

    module _ (k' : ℕ) (a : k' / 2 ^ (width f - (end.used + own.depth)) ≡ k / 2 ^ (width f - (end.used + own.depth))) where
      pub same_end : terminal f s h k' ≡ end
      same_end = terminal_same f s h k k' o (fewer (width f) end.used (end.used + own.depth) k k' (omega arith) a)

      same_ended : Ended f s h k' (descent f s h k') end.node end.used
      same_ended = rw same_end at (terminal_ended f s h k' low high (ap (λ t. t.ok) same_end ∙ o))

      same_page_lem : (descent f s h k').page ≡ own.pointer
      same_page_lem = same_ended.page ∙ (node_same f s h k k' 1 _ _ (terminal_sound f s h k o) a).1

      same_used : (descent f s h k').used ≡ end.used + own.depth
      same_used = same_ended.used ∙ ap (λ d. end.used + d) (node_same f s h k k' 1 _ _ (terminal_sound f s h k o) a).0

      same_led : (own.pointer ≡ 0 → ⊥) → Led f s h k' (descent f s h k') (page_at f s h own.pointer)
      same_led some =
          record {
            way = refl;
            ok = terminal_ok f s h k' low ∙ ap (λ t. t.ok) same_end ∙ o;
            some = λ z. some (sym same_page_lem ∙ z);
            page = ap (page_at f s h) (sym same_page_lem);
          }

  -- next from the key of a record that is not the last of its page: the record after it
  pub next_within : (k i : ℕ) → 1 ≤ h.levels → h.levels ≤ 32 → (terminal f s h k).ok ≡ true
      → let t = terminal f s h k in
      let v = own_visit f s h k t.node t.used in
      let pg = page_at f s h v.pointer in
      (v.pointer ≡ 0 → ⊥) → sound_page f h pg k (t.used + v.depth) ≡ true → i + 1 < count pg
      → next_of f s h true (key_at f pg i) ≡ Record (item_at f pg (i + 1))
  unfolding sound_page
  next_within k i low high o some p l =
      let t = terminal f s h k in
      let v = own_visit f s h k t.node t.used in
      let pg = page_at f s h v.pointer in
      let u : ℕ = t.used + v.depth in
      let rules = and_true (page_rule f h.capacity pg) (agrees f pg k u) p in
      let near = agrees_facts f pg k u rules.1 in
      let l' : i < count pg = omega arith in
      let a = near i l' in
      let p' : sound_page f h pg (key_at f pg i) (descent f s h (key_at f pg i)).used ≡ true =
      rw (same_used k low high o (key_at f pg i) a, rules.0) (facts_agrees f pg (key_at f pg i) u (λ j q. near j q ∙ sym a)) in
      sym
      (from_found true (same_led k low high o (key_at f pg i) a some) p' (sym (first_after f h.capacity pg i rules.0 l')) refl refl l)
