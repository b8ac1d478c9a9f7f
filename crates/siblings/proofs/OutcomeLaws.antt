-- What a function returned, put into what is told of it.
use mathlib.Core.Path.{◌≡◌, sym, subst}
use mathlib.Core.List.{List}
use Prim.Native.Nat.{ℕ}
use Rattle.std.specs.Prelude.{Option, Result, Err, IfErr}
use Rattle.answers.specs.declared.Refusal.{Refusal}
use Rattle.answers.specs.declared.Refusal.TheVariants.{DamageMet}
use Rattle.store.specs.declared.Format.{Format}
use Rattle.store.specs.declared.Head.{Head}
use Rattle.store.specs.Format.{width}
use Rattle.remove.specs.Remove.{Reach, Pages, sibling}
use Rattle.siblings.specs.Outcome.{found_of, mate_of}
use Rattle.siblings.specs.Marks.{SoughtIs}
use Rattle.siblings.specs.Pages.{Mated}
use Rattle.siblings.specs.Nodes.{NodesR, NodeMated, Decided}

pub err_told : {A : Type 0} {r : Result A Refusal} {e : Refusal} → r ≡ Err e → IfErr r (λ x. x ≡ DamageMet) → e ≡ DamageMet
err_told q h = subst (λ x. IfErr x (λ y. y ≡ DamageMet)) q h

module _ (f : Format) (s : List ℕ) (h : Head) (k : ℕ) {r r' : Result (Option ℕ) Refusal} (q : r ≡ r') {marks : List ℕ} where
  pub sought_at : (target : ℕ) (rs : List Reach) {u m : ℕ} → u ≡ m → SoughtIs (width f) k (found_of r) (sibling f s h k m target rs) marks
      → SoughtIs (width f) k (found_of r') (sibling f s h k u target rs) marks
  sought_at target rs {u} {m} e y =
      subst (λ x. SoughtIs (width f) k (found_of x) (sibling f s h k u target rs) marks) q
      (subst (λ v. SoughtIs (width f) k (found_of r) (sibling f s h k v target rs) marks) (sym e) y)

  pub mated_at : {level : ℕ} {g : NodesR} → NodeMated f s h k level g (found_of r) marks → NodeMated f s h k level g (found_of r') marks
  mated_at {level} {g} y = subst (λ x. NodeMated f s h k level g (found_of x) marks) q y

  pub decided_at : {level : ℕ} {g : NodesR} → Decided f s h k level g (found_of r) marks → Decided f s h k level g (found_of r') marks
  decided_at {level} {g} y = subst (λ x. Decided f s h k level g (found_of x) marks) q y

pub page_mate_at : (f : Format) (s : List ℕ) (h : Head) (k : ℕ) {r r' : Result (Option Rattle.siblings.specs.declared.Mate.Mate) Refusal} (q : r ≡ r')
    {marks : List ℕ} {g : Pages} → Mated f s h k g (mate_of r) marks → Mated f s h k g (mate_of r') marks
page_mate_at f s h k q {marks} {g} y = subst (λ x. Mated f s h k g (mate_of x) marks) q y
