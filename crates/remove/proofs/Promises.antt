-- The promises of specs/Promises, specs/Frame and specs/Mixture, each from its laws.
use mathlib.Core.List.{List}
use Prim.Native.Nat.{ℕ}
use Rattle.store.specs.declared.Format.{Format}
use Rattle.store.specs.declared.Item.{Item}
use Rattle.remove.specs.Frame.{RemoveWrites}
use Rattle.remove.specs.Promises.{RemoveRefusals, RemoveInside, PagesApart, RemoveSteps}
use Rattle.remove.specs.Mixture.{Undone, BlocksOnce}
use Rattle.remove.proofs.Refusals.{}
use Rattle.remove.proofs.RemoveSteps.{}
use Rattle.remove.proofs.RemoveInside.{}
use Rattle.remove.proofs.Mixture.{}

pub remove_refusals : RemoveRefusals
remove_refusals = Rattle.remove.proofs.Refusals.remove_refusals

pub remove_inside : RemoveInside
remove_inside = Rattle.remove.proofs.RemoveInside.remove_inside

pub remove_writes : RemoveWrites
remove_writes = Rattle.remove.proofs.RemoveInside.remove_writes

pub pages_apart : PagesApart
pages_apart = Rattle.remove.proofs.Refusals.pages_apart

pub remove_steps : (f : Format) (s : List ℕ) (S : List Item) → RemoveSteps f s S
remove_steps = Rattle.remove.proofs.RemoveSteps.remove_steps

pub blocks_once : (f : Format) (s : List ℕ) (S : List Item) → BlocksOnce f s S
blocks_once = Rattle.remove.proofs.Mixture.blocks_once

pub undone : (f : Format) → Undone f
undone = Rattle.remove.proofs.Mixture.undone
