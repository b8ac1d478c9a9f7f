-- Entries and removals mixed, on a store that holds a list: from the steps of enter and remove.
use mathlib.Core.Path.{◌≡◌, sym, ap, ap₂, ◌∙◌, subst}
use mathlib.Core.Bool.{true, false}
use mathlib.Core.Logic.{inl, inr}
use mathlib.Core.List.{List, map}
use Prim.Native.Nat.{ℕ, ◌+◌, ◌≤◌}
use native.Mathlib.Decide.{dec_le}
use native.Mathlib.Omega.{arith}
use Rattle.lists.specs.Keyed.{contains, insert}
use Rattle.lists.proofs.Cases.{bool_cases}
use Rattle.lists.proofs.KeyedLaws.{contains_false}
use Rattle.tree.specs.Trie.{shape}
use Rattle.tree.specs.Tower.{tower}
use Rattle.tree.specs.Build.{build}
use Rattle.tree.specs.Book.{Sizes, entered, fits}
use Rattle.store.specs.declared.Format.{Format}
use Rattle.store.specs.declared.Format.TheVariants.{Plots}
use Rattle.store.specs.declared.Item.{Item}
use Rattle.store.specs.Format.{width}
use Rattle.store.specs.Head.{head_of}
use Rattle.page.specs.Page.{lawful_item}
use Rattle.represent.specs.Labelled.{occ, occs, OneForOne, count}
use Rattle.page.specs.Schema.{key_of}
use Rattle.represent.specs.Rep.{numbers, Holds}
use Rattle.page.proofs.Laws.{lawful_key}
use Rattle.tree.proofs.TrieLaws.{shape_relabel}
use Rattle.page.specs.Schema.{unlawful}
use Rattle.insert.specs.Promises.{sizes_in}
use Rattle.page.specs.Schema.{schema_of}
use Rattle.joins.proofs.ListLaws.{without_insert}
use Rattle.insert.specs.Enter.{enter_of}
use Rattle.remove.specs.Remove.{remove_of}
use Rattle.store.specs.Released.{released_nodes, released_pages}
use Rattle.insert.proofs.StepLaws.{enter_steps}
use Rattle.remove.proofs.RemoveSteps.{remove_steps}
use Rattle.remove.specs.Mixture.{Partition, Undone, BlocksOnce}

-- each taken number is counted once
parts : (used : ℕ → ℕ) (ns : List ℕ) (taken n : ℕ) → OneForOne taken (λ x. used x + count x ns) → 1 ≤ n → Partition used ns taken n
parts used ns taken n o h =
    elim (dec_le n taken) [
      | yes l ↦
          let e : used n + count n ns ≡ 1 = o.once n h l in
          elim (dec_le 1 (used n)) [
            | yes u ↦ inl (omega (arith, e), omega (arith, e), l)
            | no u ↦ inr (inl (omega arith, omega (arith, e), l))
          ]
      | no l ↦
          let e : used n + count n ns ≡ 0 = o.none n (omega arith) in
          inr (inr (omega (arith, e), omega (arith, e), omega arith))
    ]

pub blocks_once : (f : Format) (s : List ℕ) (S : List Item) → BlocksOnce f s S
blocks_once f s S h = (
  λ n l m. parts (λ x. occs x h.bs) (released_nodes s) (head_of s).nodes_taken n h.rep.directory.one_for_one l,
  λ p l m. parts (λ x. occ x (numbers h.b0)) (released_pages f s) (head_of s).pages_taken p h.rep.pages.one_for_one l,
)

module _ (f : Format) where
  -- an accepted record: new, lawful, and in the list
  pub record Accepted (p : Sizes) (S : List Item) (it : Item) : Type 0 where
    pub lawful : lawful_item f it ≡ true
    pub new : contains key_of it.key S ≡ false
    pub held : (entered (schema_of f) p S it).held ≡ insert key_of it S

  accepted : (p : Sizes) (S : List Item) (it : Item) → (unlawful f ≡ 0 → ⊥) → (entered (schema_of f) p S it).reply.number ≡ 0 → Accepted p S it
  unfolding entered
  accepted p S it u e =
      elim (bool_cases (lawful_item f it)) [
        | inr a ↦ absurd (u (rw (a, entered) at e))
        | inl a ↦
            elim (bool_cases (contains key_of it.key S)) [
              | inl b ↦ absurd (eight (rw (a, b, entered) at e))
              | inr b ↦
                  elim (bool_cases (fits (schema_of f) p (insert key_of it S))) [
                    | inr c ↦ absurd (ten (rw (a, b, c, entered) at e))
                    | inl c ↦ record { lawful = a; new = b; held = rw (a, b, c, entered) }
                  ]
            ]
      ]
    where
      eight : ◌≡◌ {A = ℕ} 8 0 → ⊥
      eight q = omega (arith, q)

      ten : ◌≡◌ {A = ℕ} 10 0 → ⊥
      ten q = omega (arith, q)

  shapes : (s : List ℕ) (S : List Item) (h : Holds f s S)
      → map shape h.bs ≡ tower (head_of s).theta (shape (build key_of (head_of s).capacity (width f) S))
  shapes s S h =
      h.rep.directory.levels_are
      ∙ ap (tower (head_of s).theta) (shape_relabel (λ x. x.0) h.b0 ∙ sym (shape_relabel (λ x. x.1) h.b0) ∙ ap shape h.tree)

  undone_by : (unlawful f ≡ 0 → ⊥) → Undone f
  undone_by u s S it h e =
      let t = enter_steps f s S it h in
      let a : Accepted (sizes_in s) S it = accepted (sizes_in s) S it u (ap (λ r. r.number) (sym t.reply) ∙ e) in
      let s' : List ℕ = (enter_of f s it).words in
      let h' : Holds f s' (insert key_of it S) = subst (Holds f s') a.held t.holds in
      let r = remove_steps f s' (insert key_of it S) h' it.key (lawful_key f it a.lawful).1 in
      let s'' : List ℕ = (remove_of f s' it.key).words in
      let g : Holds f s'' S = subst (Holds f s'') (without_insert key_of it S (contains_false key_of it.key S a.new)) r.holds in
      let C : (head_of s'').capacity ≡ (head_of s).capacity = r.kept.within.sizes_same.capacity ∙ t.sizes_same.capacity in
      let θ : (head_of s'').theta ≡ (head_of s).theta = r.kept.within.sizes_same.theta ∙ t.sizes_same.theta in
      record {
        holds = g;
        records = g.tree ∙ ap (λ c. build key_of c (width f) S) C ∙ sym h.tree;
        nodes = shapes s'' S g ∙ ap₂ (λ n c. tower n (shape (build key_of c (width f) S))) θ C ∙ sym (shapes s S h);
      }

refused_number : (f : Format) → unlawful f ≡ 0 → ⊥
unfolding unlawful
refused_number Plots e = omega (arith, e)

pub undone : (f : Format) → Undone f
undone f = undone_by f (refused_number f)
