-- The book's records stay ascending, and they are those accepted, in whatever order they came. A set that fits is accepted in every order:
-- what the book holds on the way is a sublist of what it holds at the end, and a tree never shrinks.
use mathlib.Core.Path.{◌≡◌, refl, sym, ap, ◌∙◌, subst}
use mathlib.Core.Bool.{true, false, not, ◌&&◌, true≢false}
use mathlib.Core.List.{List, [], ◌∷◌, Sublistᴰ, Permᴰ}
use mathlib.Core.Logic.{inl, inr}
use Prim.Native.Nat.{ℕ, ◌≤◌}
use native.Mathlib.Omega.{arith}
use lib.Dec.{leb, eqb}
use borrow.Author.Tests.{le-leb, leb-true, eq-eqb, not-true}
use Rattle.lists.specs.Lists.{All}
use Rattle.lists.specs.Keyed.{Sorted, Distinct, Lacks, contains, insert, ascending}
use Rattle.lists.proofs.Cases.{bool_cases}
use Rattle.lists.proofs.Tests.{and_true, or_holds}
use Rattle.lists.proofs.ListLaws.{all_map, all_both, all_perm}
use Rattle.lists.proofs.KeyedLaws.{all_insert, sorted_insert, contains_false, lacks_contains, contains_insert, insert_all}
use Rattle.lists.proofs.KeyedLaws.{sublist_insert_all, insert_all_ascending, distinct_perm, ascending_perm}
use Rattle.tree.specs.Trie.{shape}
use Rattle.tree.specs.Book.{Schema, Sizes, Entered, tree, levels_of, nodes_of, pages_of, fits, entered, book, accepts, accepted}
use Rattle.tree.proofs.Growth.{within_tower, within_build, sublist_pages}

module _ {R : Type 0} (F : Schema R) (p : Sizes) where
  -- a tree fits if it has no more nodes and pages than one that does
  fits_le : (S T : List R) → nodes_of F p S ≤ nodes_of F p T → pages_of F p S ≤ pages_of F p T → fits F p T ≡ true → fits F p S ≡ true
  unfolding fits
  fits_le S T n g e =
      let f = and_true (leb (nodes_of F p T) p.node_blocks) (leb (pages_of F p T) p.page_blocks) e in
      rw (
        le-leb (nodes_of F p S) p.node_blocks (omega (arith, leb-true (nodes_of F p T) p.node_blocks f.0)),
        le-leb (pages_of F p S) p.page_blocks (omega (arith, leb-true (pages_of F p T) p.page_blocks f.1)),
      )

  pub fits_sublist : (S T : List R) → Sublistᴰ S T → fits F p T ≡ true → fits F p S ≡ true
  fits_sublist S T d =
      fits_le S T
      (within_tower p.theta (shape (tree F p S)) (shape (tree F p T)) (within_build F.key p.capacity F.width S T d)).0
      (sublist_pages F.key p.capacity F.width S T d)

  -- one call
  abbrev joined : List R → R → Entered R
  joined S r =
      record {
        reply = record {
          number = 0;
          key = F.key r;
          levels = levels_of F p (insert F.key r S);
          nodes = nodes_of F p (insert F.key r S);
          pages = pages_of F p (insert F.key r S);
        };
        held = insert F.key r S;
      }

  pub record Accepted (S : List R) (r : R) : Type 0 where
    pub lawful : F.lawful r ≡ true
    pub new : contains F.key (F.key r) S ≡ false
    pub fitting : fits F p (insert F.key r S) ≡ true

  pub accepts_is : (S : List R) (r : R) → accepts F p S r ≡ true → Accepted S r
  unfolding accepts
  accepts_is S r e =
      let a = and_true (F.lawful r) (not (contains F.key (F.key r) S) && fits F p (insert F.key r S)) e in
      let b = and_true (not (contains F.key (F.key r) S)) (fits F p (insert F.key r S)) a.1 in
      record { lawful = a.0; new = not-true (contains F.key (F.key r) S) b.0; fitting = b.1 }

  pub accepted_by : (S : List R) (r : R) → Accepted S r → accepts F p S r ≡ true
  unfolding accepts
  accepted_by S r a = rw (a.lawful, a.new, a.fitting)

  pub entered_yes : (S : List R) (r : R) → accepts F p S r ≡ true → entered F p S r ≡ joined S r
  unfolding entered
  entered_yes S r e = let a = accepts_is S r e in rw (a.lawful, a.new, a.fitting, entered)

  pub entered_no : (S : List R) (r : R) → accepts F p S r ≡ false → (entered F p S r).held ≡ S
  unfolding entered accepts
  entered_no S r e =
      elim (bool_cases (F.lawful r)) [
        | inr a ↦ rw (a, entered)
        | inl a ↦
            elim (bool_cases (contains F.key (F.key r) S)) [
              | inl b ↦ rw (a, b, entered)
              | inr b ↦ rw (a, b, (rw (a, b) at e), entered)
            ]
      ]

  -- what the book keeps, call by call
  pub book_yes : (S : List R) (r : R) (rs : List R) → accepts F p S r ≡ true
      → ((book F p S (r ∷ rs)).held ≡ (book F p (insert F.key r S) rs).held)
      × (accepted F p S (r ∷ rs) ≡ r ∷ accepted F p (insert F.key r S) rs)
  unfolding book accepted
  book_yes S r rs e = (ap (λ (a : Entered R). (book F p a.held rs).held) (entered_yes S r e), rw (e, accepted))

  pub book_no : (S : List R) (r : R) (rs : List R) → accepts F p S r ≡ false
      → ((book F p S (r ∷ rs)).held ≡ (book F p S rs).held) × (accepted F p S (r ∷ rs) ≡ accepted F p S rs)
  unfolding book accepted
  book_no S r rs e = (ap (λ (T : List R). (book F p T rs).held) (entered_no S r e), rw (e, accepted))

  -- what each accepted record keeps, the book keeps
  pub book_keeps : (Q : List R → Type 0) → ((S : List R) (r : R) → Accepted S r → Q S → Q (insert F.key r S)) → (S rs : List R) → Q S
      → Q (book F p S rs).held
  unfolding book
  book_keeps Q f S [] q = q
  book_keeps Q f S (r ∷ rs) q =
      elim (bool_cases (accepts F p S r)) [
        | inl e ↦ subst Q (sym (book_yes S r rs e).0) (book_keeps Q f (insert F.key r S) rs (f S r (accepts_is S r e) q))
        | inr e ↦ subst Q (sym (book_no S r rs e).0) (book_keeps Q f S rs q)
      ]

  pub book_sorted : (S rs : List R) → Sorted F.key S → Sorted F.key (book F p S rs).held
  book_sorted = book_keeps (Sorted F.key) (λ S r a. sorted_insert F.key r S (contains_false F.key (F.key r) S a.new))

  pub book_lawful : (S rs : List R) → All (λ r. F.lawful r ≡ true) S → All (λ r. F.lawful r ≡ true) (book F p S rs).held
  book_lawful = book_keeps (All (λ r. F.lawful r ≡ true)) (λ S r a. all_insert F.key (λ r. F.lawful r ≡ true) r S a.lawful)

  pub book_fits : (S rs : List R) → fits F p S ≡ true → fits F p (book F p S rs).held ≡ true
  book_fits = book_keeps (λ S. fits F p S ≡ true) (λ S r a q. a.fitting)

  -- the book holds the accepted records, inserted one after another
  pub book_held : (S rs : List R) → (book F p S rs).held ≡ insert_all F.key S (accepted F p S rs)
  unfolding book accepted
  book_held S [] = refl
  book_held S (r ∷ rs) =
      elim (bool_cases (accepts F p S r)) [
        | inl e ↦ (book_yes S r rs e).0 ∙ book_held (insert F.key r S) rs ∙ ap (insert_all F.key S) (sym (book_yes S r rs e).1)
        | inr e ↦ (book_no S r rs e).0 ∙ book_held S rs ∙ ap (insert_all F.key S) (sym (book_no S r rs e).1)
      ]

  -- a key in the book is not accepted again
  accepted_lacks : (k : ℕ) (S rs : List R) → contains F.key k S ≡ true → Lacks F.key k (accepted F p S rs)
  unfolding accepted
  accepted_lacks k S [] c = tt
  accepted_lacks k S (r ∷ rs) c =
      elim (bool_cases (accepts F p S r)) [
        | inl e ↦
            rw (book_yes S r rs e).1 (
              λ q. true≢false (sym c ∙ ap (λ (j : ℕ). contains F.key j S) (sym q) ∙ (accepts_is S r e).new),
              accepted_lacks k (insert F.key r S) rs (contains_insert F.key k r S
                  ∙ or_holds (eqb (F.key r) k) (contains F.key k S) (inr c)),
            )
        | inr e ↦ rw (book_no S r rs e).1 (accepted_lacks k S rs c)
      ]

  pub accepted_distinct : (S rs : List R) → Distinct F.key (accepted F p S rs)
  unfolding accepted
  accepted_distinct S [] = tt
  accepted_distinct S (r ∷ rs) =
      elim (bool_cases (accepts F p S r)) [
        | inl e ↦
            rw (book_yes S r rs e).1 (
              all_map (λ y. F.key y ≡ F.key r → ⊥) (λ y. F.key r ≡ F.key y → ⊥) (accepted F p (insert F.key r S) rs)
                  (λ y n q. n (sym q))
                  (accepted_lacks (F.key r) (insert F.key r S) rs
                  (contains_insert F.key (F.key r) r S ∙ rw (eq-eqb (F.key r) (F.key r) refl))),
              accepted_distinct (insert F.key r S) rs,
            )
        | inr e ↦ rw (book_no S r rs e).1 (accepted_distinct S rs)
      ]

  pub book_ascending : (rs : List R) → (book F p [] rs).held ≡ ascending F.key (accepted F p [] rs)
  book_ascending rs = book_held [] rs ∙ insert_all_ascending F.key (accepted F p [] rs) (accepted_distinct [] rs)

  -- new lawful records with distinct keys, whose tree fits in the end, are accepted one after another
  pub record Taken (S rs : List R) : Type 0 where
    pub every : All (λ a. a.number ≡ 0) (book F p S rs).replies
    pub records : accepted F p S rs ≡ rs

  pub taken : (S rs : List R) → All (λ r. F.lawful r ≡ true) rs → Distinct F.key rs → All (λ r. Lacks F.key (F.key r) S) rs
      → fits F p (insert_all F.key S rs) ≡ true → Taken S rs
  unfolding book accepted
  taken S [] l d n f = record { every = tt; records = refl }
  taken S (r ∷ rs) l d n f =
      let e : accepts F p S r ≡ true =
      accepted_by S r (record {
        lawful = l.0;
        new = lacks_contains F.key (F.key r) S n.0;
        fitting =
            fits_sublist (insert F.key r S) (insert_all F.key S (r ∷ rs)) (sublist_insert_all F.key (insert F.key r S) rs) f;
      }) in
      let apart : All (λ y. Lacks F.key (F.key y) (insert F.key r S)) rs =
      all_both (λ y. F.key r ≡ F.key y → ⊥) (λ y. Lacks F.key (F.key y) S) (λ y. Lacks F.key (F.key y) (insert F.key r S)) rs
      (λ y m o. all_insert F.key (λ x. F.key x ≡ F.key y → ⊥) r S m o) d.0 n.1 in
      let i = taken (insert F.key r S) rs l.1 d.1 apart f in
      record {
        every = (
          ap (λ (a : Entered R). a.reply.number) (entered_yes S r e),
          subst (λ (a : Entered R). All (λ b. b.number ≡ 0) (book F p a.held rs).replies) (sym (entered_yes S r e)) i.every,
        );
        records = (book_yes S r rs e).1 ∙ ap (λ (xs : List R). r ∷ xs) i.records;
      }

  -- in every order
  pub taken_any_order : (rs qs : List R) → Permᴰ rs qs → All (λ r. F.lawful r ≡ true) rs → Distinct F.key rs
      → fits F p (ascending F.key rs) ≡ true
      → All (λ a. a.number ≡ 0) (book F p [] qs).replies × ((book F p [] qs).held ≡ ascending F.key rs)
  taken_any_order rs qs m l d f =
      let dq = distinct_perm F.key m d in
      let same = ascending_perm F.key m d in
      let t =
      taken [] qs (all_perm (λ r. F.lawful r ≡ true) m l) dq
      (all_map (λ r. F.lawful r ≡ true) (λ r. Unit {0}) qs (λ r q. tt) (all_perm (λ r. F.lawful r ≡ true) m l))
      (ap (fits F p) (insert_all_ascending F.key qs dq ∙ sym same) ∙ f) in
      (t.every, book_ascending qs ∙ ap (ascending F.key) t.records ∙ sym same)
