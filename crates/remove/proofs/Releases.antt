-- Blocks released one after another: what they leave as it was, and the chain after them.
use mathlib.Core.Path.{◌≡◌, refl, sym, ap, ◌∙◌, subst}
use mathlib.Core.List.{List, [], ◌∷◌}
use mathlib.Core.Logic.{◌⊎◌, inl, inr}
use Prim.Native.Nat.{ℕ, suc, ◌+◌, ◌-◌, ◌*◌, ◌^◌, ◌≤◌, ◌<◌}
use native.Mathlib.Omega.{arith}
use native.Mathlib.Decide.{ℕ_discrete}
use lib.Dec.{eqb}
use lib.Pow.{pow_pos}
use lib.ListN.{length, length-replicate, set}
use Rattle.lists.proofs.ListLaws.{all_map}
use Rattle.lists.proofs.Tests.{every_ext}
use Rattle.store.specs.declared.Format.{Format}
use Rattle.store.specs.declared.Format.TheVariants.{Plots}
use Rattle.store.specs.Format.{words}
use Rattle.store.specs.Head.{word, zeros, head_of, node_words, page_words}
use Rattle.store.proofs.HeadLaws.{sizes_limits}
use Rattle.represent.specs.Labelled.{count}
use Rattle.represent.specs.Rep.{size_of, Sized}
use Rattle.represent.proofs.LabelLaws.{ind_self, ind_eq, ind_other}
use Rattle.split.specs.Frame.{node_of, page_of, put_node, put_page}
use Rattle.split.proofs.Kept.{size_same}
use Rattle.split.proofs.Frame.{next_node_lem, next_page_lem}
use Rattle.store.specs.Head.{released_of}
use Rattle.store.specs.Released.{released_node, released_page, node_next, page_next}
use Rattle.release.specs.Release.{release_node, release_page}
use Rattle.remove.specs.Doable.{In}
use Rattle.remove.specs.Remove.{release_nodes, release_pages, backwards}
use Rattle.remove.proofs.ChainLaws.{ChainIs, chain_one_more}
use Rattle.remove.specs.Frame.{Kept, Framed}
use Rattle.remove.proofs.Framed.{framed_self, framed_wide, framed_then, node_here, node_framed, page_here, page_framed, head_here}
use Rattle.remove.proofs.Framed.{head_framed}

pub room_kept : (f : Format) (s t : List ℕ) → Kept f s t → size_of f s ≤ length s → size_of f t ≤ length t
room_kept f s t k room = omega (arith, size_same f s t k.within.sizes_same, k.within.long, room)

zeros_same : (s t : List ℕ) (a n : ℕ) → ((i : ℕ) → a ≤ i → i < a + n → word t i ≡ word s i) → zeros t a n ≡ zeros s a n
unfolding zeros
zeros_same s t a n g =
    every_ext n (λ j. eqb (word t (a + j)) 0) (λ j. eqb (word s (a + j)) 0)
    (λ j l. ap (λ (x : ℕ). eqb x 0) (g (a + j) (omega arith) (omega arith)))

pub sized_kept : (f : Format) (s t : List ℕ) → Kept f s t → Sized f s → Sized f t
sized_kept f s t k ok =
    let z = k.within.sizes_same in
    record {
      sizes = rw (z.theta, z.capacity, z.nodes, z.pages) ok.sizes;
      spare = zeros_same s t 12 4 (λ i a e. k.within.spare i a (omega (arith, e))) ∙ ok.spare;
      long = room_kept f s t k ok.long;
    }

length_node : (θ next : ℕ) → length (released_node θ next) ≡ node_words θ
unfolding released_node node_words
length_node θ next = omega (arith, length-replicate {A = ℕ} (4 + 2 * 2 ^ θ - 3) 0, pow_pos θ)

length_page : (f : Format) (C next : ℕ) → 1 ≤ C → length (released_page f C next) ≡ page_words f C
unfolding released_page page_words words
length_page Plots C next low = omega (arith, length-replicate {A = ℕ} (1 + 4 * C - 2) 0)

node_third : (θ next : ℕ) → word (released_node θ next) 2 ≡ next
unfolding released_node
node_third θ next = refl

page_second : (f : Format) (C next : ℕ) → word (released_page f C next) 1 ≡ next
unfolding released_page
page_second f C next = refl

abbrev pub NodeWordsOf : ℕ → Type 0
NodeWordsOf i = (i ≡ 8) ⊎ (i ≡ 10)

abbrev pub PageWordsOf : ℕ → Type 0
PageWordsOf i = (i ≡ 9) ⊎ (i ≡ 11)

-- one node
module _ (f : Format) (s : List ℕ) (room : size_of f s ≤ length s) (n : ℕ) (low : 1 ≤ n) (high : n ≤ (head_of s).node_blocks) where
  abbrev form : List ℕ
  form = released_node (head_of s).theta (released_of s).node

  abbrev s₁ : List ℕ
  s₁ = put_node s n form

  abbrev s₂ : List ℕ
  s₂ = set s₁ 8 n

  one : Framed f s s₁ (λ x. x ≡ n) (λ p. ⊥) NodeWordsOf
  one = framed_wide f s s₁ (node_framed f s room n form low high (length_node (head_of s).theta (released_of s).node)) (λ x p. p)
      (λ x p. p) (λ x p. absurd p)

  room₁ : size_of f s₁ ≤ length s₁
  room₁ = room_kept f s s₁ one.kept room

  two : Framed f s s₂ (λ x. x ≡ n) (λ p. ⊥) NodeWordsOf
  two =
      framed_then f s s₁ s₂ one
      (framed_wide f s₁ s₂ (head_framed f s₁ room₁ 8 n (omega arith) (omega arith)) (λ x p. absurd p) (λ x p. p) (λ x p. inl p))

  room₂ : size_of f s₂ ≤ length s₂
  room₂ = room_kept f s s₂ two.kept room

  pub release_framed : Framed f s (release_node s n) (λ x. x ≡ n) (λ p. ⊥) NodeWordsOf
  unfolding release_node
  release_framed =
      framed_then f s s₂ (release_node s n) two
      (framed_wide f s₂ (release_node s n) (head_framed f s₂ room₂ 10 (suc (released_of s).nodes) (omega arith) (omega arith))
      (λ x p. absurd p) (λ x p. p)
      (λ x p. inr p))

  release_name : (released_of (release_node s n)).node ≡ n
  unfolding release_node released_of
  release_name =
      (head_framed f s₂ room₂ 10 (suc (released_of s).nodes) (omega arith) (omega arith)).words 8 (omega arith) (λ e. omega (arith, e))
      ∙ head_here f s₁ room₁ 8 n (omega arith) (omega arith)

  pub release_count : (released_of (release_node s n)).nodes ≡ suc (released_of s).nodes
  unfolding release_node released_of
  release_count = head_here f s₂ room₂ 10 (suc (released_of s).nodes) (omega arith) (omega arith)

  release_block : node_of (release_node s n) n ≡ form
  unfolding release_node
  release_block =
      (head_framed f s₂ room₂ 10 (suc (released_of s).nodes) (omega arith) (omega arith)).node n low
      (omega (arith, high, two.kept.within.sizes_same.nodes)) (λ e. e)
      ∙ (head_framed f s₁ room₁ 8 n (omega arith) (omega arith)).node n low (omega (arith, high, one.kept.within.sizes_same.nodes))
      (λ e. e)
      ∙ node_here f s room n form low high (length_node (head_of s).theta (released_of s).node)

-- the released blocks of s are cs, the last one first
abbrev pub NodeChain : List ℕ → List ℕ → Type 0
NodeChain s = ChainIs (node_of s) (released_node (head_of s).theta) (node_next s) (released_of s).nodes (released_of s).node

abbrev pub PageChain : Format → List ℕ → List ℕ → Type 0
PageChain f s = ChainIs (page_of f s) (released_page f (head_of s).capacity) (page_next f s) (released_of s).pages (released_of s).page

pub in_at : (m : ℕ) (cs : List ℕ) (x : ℕ) → In m cs → 1 ≤ count x cs → (1 ≤ x) × (x ≤ m)
in_at m [] x i o = absurd (omega (arith, o))
in_at m (c ∷ cs) x i o =
    elim (ℕ_discrete x c) [
      | yes e ↦ subst (λ y. (1 ≤ y) × (y ≤ m)) (sym e) i.0
      | no e ↦ in_at m cs x i.1 (omega (arith, o, ind_other x c e))
    ]

pub in_wide : (m n : ℕ) (xs : List ℕ) → m ≤ n → In m xs → In n xs
in_wide m n xs e = all_map (λ x. (1 ≤ x) × (x ≤ m)) (λ x. (1 ≤ x) × (x ≤ n)) xs (λ x q. (q.0, omega (arith, q.1, e)))

other : (n x : ℕ) (cs : List ℕ) → count n cs ≡ 0 → 1 ≤ count x cs → x ≡ n → ⊥
other n x cs out o e = omega (arith, out, subst (λ y. 1 ≤ count y cs) e o)

chain_one : (f : Format) (s : List ℕ) (ok : Sized f s) (n : ℕ) (low : 1 ≤ n) (high : n ≤ (head_of s).node_blocks) (cs : List ℕ)
    → NodeChain s cs → In (head_of s).node_blocks cs → count n cs ≡ 0 → NodeChain (release_node s n) (n ∷ cs)
chain_one f s ok n low high cs c i out =
    let t : List ℕ = release_node s n in
    let room = ok.long in
    let w = release_framed f s room n low high in
    let ok' = sized_kept f s t w.kept ok in
    let name : ℕ = (released_of s).node in
    let many : ℕ = (released_of s).nodes in
    let block_is : node_of t n ≡ released_node (head_of s).theta name = release_block f s room n low high in
    let next_is : node_next t n ≡ name =
    next_node_lem f t ok' n low (omega (arith, high, w.kept.within.sizes_same.nodes)) ∙ ap (λ ws. word ws 2) block_is
    ∙ node_third (head_of s).theta name in
    at w.kept.within.sizes_same.theta (release_name f s room n low high) (release_count f s room n low high)
    (chain_one_more (node_of s) (node_of t) (released_node (head_of s).theta) (node_next s) (node_next t) many name cs c
    (λ x o.
    let a = in_at (head_of s).node_blocks cs x i o in
    let e : node_of t x ≡ node_of s x = w.node x a.0 a.1 (other n x cs out o) in (
      e,
      next_node_lem f t ok' x a.0 (omega (arith, a.1, w.kept.within.sizes_same.nodes)) ∙ ap (λ ws. word ws 2) e
          ∙ sym (next_node_lem f s ok x a.0 a.1),
    )) n block_is next_is)
  where
    at : {block : ℕ → List ℕ} {next : ℕ → ℕ} {θ θ' name name' many many' : ℕ} {cs : List ℕ} → θ' ≡ θ → name' ≡ name → many' ≡ many
        → ChainIs block (released_node θ) next many name cs → ChainIs block (released_node θ') next many' name' cs
    at a b d z = rw (a, b, d) z

pub nodes_framed : (f : Format) (s : List ℕ) (ms : List ℕ) → size_of f s ≤ length s → In (head_of s).node_blocks ms
    → Framed f s (release_nodes s ms) (λ x. 1 ≤ count x ms) (λ p. ⊥) NodeWordsOf
nodes_framed f s [] room a = framed_self f s _ _ _
nodes_framed f s (n ∷ ms) room a =
    let t : List ℕ = release_node s n in
    let w = release_framed f s room n a.0.0 a.0.1 in
    let e : (head_of t).node_blocks ≡ (head_of s).node_blocks = w.kept.within.sizes_same.nodes in
    let i = nodes_framed f t ms (room_kept f s t w.kept room)
    (in_wide (head_of s).node_blocks (head_of t).node_blocks ms (omega (arith, e)) a.1) in
    framed_then f s t (release_nodes t ms)
    (framed_wide f s t w (λ x q. omega (arith, ind_eq x n q)) (λ x q. q) (λ x q. q))
    (framed_wide f t (release_nodes t ms) i (λ x q. omega (arith, q)) (λ x q. q) (λ x q. q))

pub nodes_released : (f : Format) (s : List ℕ) (ms cs : List ℕ) → Sized f s → In (head_of s).node_blocks ms
    → In (head_of s).node_blocks cs → ((x : ℕ) → count x ms + count x cs ≤ 1) → NodeChain s cs
    → NodeChain (release_nodes s ms) (backwards cs ms)
nodes_released f s [] cs ok a b d c = c
nodes_released f s (n ∷ ms) cs ok a b d c =
    let t : List ℕ = release_node s n in
    let w = release_framed f s ok.long n a.0.0 a.0.1 in
    let e : (head_of t).node_blocks ≡ (head_of s).node_blocks = w.kept.within.sizes_same.nodes in
    nodes_released f t ms (n ∷ cs) (sized_kept f s t w.kept ok)
    (in_wide (head_of s).node_blocks (head_of t).node_blocks ms (omega (arith, e)) a.1)
    ((a.0.0, omega (arith, a.0.1, e)), in_wide (head_of s).node_blocks (head_of t).node_blocks cs (omega (arith, e)) b)
    (λ x. omega (arith, d x)) (chain_one f s ok n a.0.0 a.0.1 cs c b (omega (arith, d n, ind_self n)))

-- one page
module _ (f : Format) (s : List ℕ) (room : size_of f s ≤ length s) (low_C : 1 ≤ (head_of s).capacity) (n : ℕ) (low : 1 ≤ n)
    (high : n ≤ (head_of s).page_blocks) where
  abbrev form' : List ℕ
  form' = released_page f (head_of s).capacity (released_of s).page

  abbrev p₁ : List ℕ
  p₁ = put_page f s n form'

  abbrev p₂ : List ℕ
  p₂ = set p₁ 9 n

  long_form : length form' ≡ page_words f (head_of s).capacity
  long_form = length_page f (head_of s).capacity (released_of s).page low_C

  one' : Framed f s p₁ (λ p. ⊥) (λ x. x ≡ n) PageWordsOf
  one' = framed_wide f s p₁ (page_framed f s room n form' low high long_form) (λ x p. p) (λ x p. p) (λ x p. absurd p)

  room₁' : size_of f p₁ ≤ length p₁
  room₁' = room_kept f s p₁ one'.kept room

  two' : Framed f s p₂ (λ p. ⊥) (λ x. x ≡ n) PageWordsOf
  two' =
      framed_then f s p₁ p₂ one'
      (framed_wide f p₁ p₂ (head_framed f p₁ room₁' 9 n (omega arith) (omega arith)) (λ x p. p) (λ x p. absurd p) (λ x p. inl p))

  room₂' : size_of f p₂ ≤ length p₂
  room₂' = room_kept f s p₂ two'.kept room

  pub page_release_framed : Framed f s (release_page f s n) (λ p. ⊥) (λ x. x ≡ n) PageWordsOf
  unfolding release_page
  page_release_framed =
      framed_then f s p₂ (release_page f s n) two'
      (framed_wide f p₂ (release_page f s n) (head_framed f p₂ room₂' 11 (suc (released_of s).pages) (omega arith) (omega arith)) (λ x p. p)
      (λ x p. absurd p)
      (λ x p. inr p))

  page_release_name : (released_of (release_page f s n)).page ≡ n
  unfolding release_page released_of
  page_release_name =
      (head_framed f p₂ room₂' 11 (suc (released_of s).pages) (omega arith) (omega arith)).words 9 (omega arith) (λ e. omega (arith, e))
      ∙ head_here f p₁ room₁' 9 n (omega arith) (omega arith)

  pub page_release_count : (released_of (release_page f s n)).pages ≡ suc (released_of s).pages
  unfolding release_page released_of
  page_release_count = head_here f p₂ room₂' 11 (suc (released_of s).pages) (omega arith) (omega arith)

  page_release_block : page_of f (release_page f s n) n ≡ form'
  unfolding release_page
  page_release_block =
      (head_framed f p₂ room₂' 11 (suc (released_of s).pages) (omega arith) (omega arith)).page n low
      (omega (arith, high, two'.kept.within.sizes_same.pages)) (λ e. e)
      ∙ (head_framed f p₁ room₁' 9 n (omega arith) (omega arith)).page n low (omega (arith, high, one'.kept.within.sizes_same.pages))
      (λ e. e)
      ∙ page_here f s room n form' low high long_form

capacity_low : (f : Format) (s : List ℕ) → Sized f s → 1 ≤ (head_of s).capacity
capacity_low f s ok = (sizes_limits _ _ _ _ ok.sizes).capacity_low

page_chain_one : (f : Format) (s : List ℕ) (ok : Sized f s) (n : ℕ) (low : 1 ≤ n) (high : n ≤ (head_of s).page_blocks) (cs : List ℕ)
    → PageChain f s cs → In (head_of s).page_blocks cs → count n cs ≡ 0 → PageChain f (release_page f s n) (n ∷ cs)
page_chain_one f s ok n low high cs c i out =
    let t : List ℕ = release_page f s n in
    let room = ok.long in
    let C = capacity_low f s ok in
    let w = page_release_framed f s room C n low high in
    let ok' = sized_kept f s t w.kept ok in
    let name : ℕ = (released_of s).page in
    let many : ℕ = (released_of s).pages in
    let block_is : page_of f t n ≡ released_page f (head_of s).capacity name = page_release_block f s room C n low high in
    let next_is : page_next f t n ≡ name =
    next_page_lem f t ok' n low (omega (arith, high, w.kept.within.sizes_same.pages)) ∙ ap (λ ws. word ws 1) block_is
    ∙ page_second f (head_of s).capacity name in
    at w.kept.within.sizes_same.capacity (page_release_name f s room C n low high) (page_release_count f s room C n low high)
    (chain_one_more (page_of f s) (page_of f t) (released_page f (head_of s).capacity) (page_next f s) (page_next f t) many name cs c
    (λ x o.
    let a = in_at (head_of s).page_blocks cs x i o in
    let e : page_of f t x ≡ page_of f s x = w.page x a.0 a.1 (other n x cs out o) in (
      e,
      next_page_lem f t ok' x a.0 (omega (arith, a.1, w.kept.within.sizes_same.pages)) ∙ ap (λ ws. word ws 1) e
          ∙ sym (next_page_lem f s ok x a.0 a.1),
    )) n block_is next_is)
  where
    at : {block : ℕ → List ℕ} {next : ℕ → ℕ} {C C' name name' many many' : ℕ} {cs : List ℕ} → C' ≡ C → name' ≡ name → many' ≡ many
        → ChainIs block (released_page f C) next many name cs → ChainIs block (released_page f C') next many' name' cs
    at a b d z = rw (a, b, d) z

pub pages_framed : (f : Format) (s : List ℕ) (ms : List ℕ) → size_of f s ≤ length s → 1 ≤ (head_of s).capacity → In (head_of s).page_blocks ms
    → Framed f s (release_pages f s ms) (λ p. ⊥) (λ x. 1 ≤ count x ms) PageWordsOf
pages_framed f s [] room C a = framed_self f s _ _ _
pages_framed f s (n ∷ ms) room C a =
    let t : List ℕ = release_page f s n in
    let w = page_release_framed f s room C n a.0.0 a.0.1 in
    let e : (head_of t).page_blocks ≡ (head_of s).page_blocks = w.kept.within.sizes_same.pages in
    let i = pages_framed f t ms (room_kept f s t w.kept room) (omega (arith, C, w.kept.within.sizes_same.capacity))
    (in_wide (head_of s).page_blocks (head_of t).page_blocks ms (omega (arith, e)) a.1) in
    framed_then f s t (release_pages f t ms)
    (framed_wide f s t w (λ x q. q) (λ x q. omega (arith, ind_eq x n q)) (λ x q. q))
    (framed_wide f t (release_pages f t ms) i (λ x q. q) (λ x q. omega (arith, q)) (λ x q. q))

pub pages_released : (f : Format) (s : List ℕ) (ms cs : List ℕ) → Sized f s → In (head_of s).page_blocks ms → In (head_of s).page_blocks cs
    → ((x : ℕ) → count x ms + count x cs ≤ 1) → PageChain f s cs → PageChain f (release_pages f s ms) (backwards cs ms)
pages_released f s [] cs ok a b d c = c
pages_released f s (n ∷ ms) cs ok a b d c =
    let t : List ℕ = release_page f s n in
    let w = page_release_framed f s ok.long (capacity_low f s ok) n a.0.0 a.0.1 in
    let e : (head_of t).page_blocks ≡ (head_of s).page_blocks = w.kept.within.sizes_same.pages in
    pages_released f t ms (n ∷ cs) (sized_kept f s t w.kept ok)
    (in_wide (head_of s).page_blocks (head_of t).page_blocks ms (omega (arith, e)) a.1)
    ((a.0.0, omega (arith, a.0.1, e)), in_wide (head_of s).page_blocks (head_of t).page_blocks cs (omega (arith, e)) b)
    (λ x. omega (arith, d x)) (page_chain_one f s ok n a.0.0 a.0.1 cs c b (omega (arith, d n, ind_self n)))
