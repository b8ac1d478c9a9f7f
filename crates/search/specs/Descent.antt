-- The descent with a key. Document 01, "Descent and splits" and "Reading".
--   step_of f s h k level n used  == what a visit of node n gives: whether it keeps the rules, and the key's entry
--   lost                         == a descent that met damage
--   descend f s h k level n used steps == the way of the key k from node n of this level down to its page, with the steps on it
--   descent f s h k              == the same from the root
--   end_of d                      == where the descent d ends: its terminal node and its page, each with the bits used before it
--   no_step, no_steps              == a step not taken; a path before its first step
--   damaged_node, entry_visit s b i == what a visit gives: damage, or entry i of the node block at b
--   step_taken steps l n used v   == the path with the step of level l + 1
--   limited θ nodes pages        == a head with just the numbers that the node rule asks for
--   limits_of h                   == that of the head h
--   sound_node f s h level n used == node n, reached after the used bits, keeps the rules of a node on a path at this level
--   TerminalNode h s n           == n is a terminal (level-1) node in use that keeps the node rule
--   terminal_from f s h k l n used == the terminal node of the key k, from node n on, which is l levels above it
--   terminal f s h k             == the same from the root: the path without its steps
--   lost_terminal                 == a way to the terminal node that met damage
--   own_visit f s h k n used      == the key's entry in node n, reached after the used bits
-- A step is the node, the key's entry number in it, that entry's local depth, and the bits used before the node; the step of level l
-- stands at l − 1 of the 32 steps.
use Rattle.std.specs.Prelude.{◌≡◌, Bool, true, false, ◌&&◌, List, ℕ, zero, suc, ◌+◌, ◌-◌, leb, get_or, set, replicate}
use Rattle.store.specs.declared.Format.{Format}
use Rattle.store.specs.declared.Head.{Head}
use Rattle.store.specs.Format.{width}
use Rattle.store.specs.Head.{node_start, InUse}
use Rattle.node.specs.Node.{depth_word, entry_depth, entry_pointer, node_rule, entry_number}
use Rattle.search.specs.declared.Step.{Step}
use Rattle.search.specs.Way.{Visit}
use Rattle.search.specs.Way.{Descent}
use Rattle.search.specs.Way.{Terminal}
use Rattle.search.specs.Way.{End}

abbrev pub no_step : Step
no_step = record { node = 0; entry = 0; depth = 0; used = 0 }

unfoldable pub no_steps : List Step
no_steps = replicate 32 no_step

unfoldable pub damaged_node : Visit
damaged_node = record { ok = false; entry = 0; depth = 0; pointer = 0 }

-- the entry i of the node block at b
unfoldable pub entry_visit : List ℕ → ℕ → ℕ → Visit
entry_visit s b i = record { ok = true; entry = i; depth = entry_depth s b i; pointer = entry_pointer s b i }

unfoldable pub limited : ℕ → ℕ → ℕ → Head
limited θ nodes pages =
    record {
      theta = θ;
      capacity = 0;
      node_blocks = 0;
      page_blocks = 0;
      nodes_taken = nodes;
      pages_taken = pages;
      root = 0;
      levels = 0;
    }

abbrev pub limits_of : Head → Head
limits_of h = limited h.theta h.nodes_taken h.pages_taken

-- "On a path, the bits used before a node and its H together are at most 32"
abbrev pub sound_node : Format → List ℕ → Head → ℕ → ℕ → ℕ → Bool
sound_node f s h level n used = node_rule h s (node_start h n) level && leb (used + depth_word s (node_start h n)) (width f)

unfoldable pub step_of : Format → List ℕ → Head → ℕ → ℕ → ℕ → ℕ → Visit
step_of f s h k level n used =
    elim (sound_node f s h level n used) [
      | true ↦ entry_visit s (node_start h n) (entry_number (width f) k used (depth_word s (node_start h n)))
      | false ↦ damaged_node
    ]

unfoldable pub lost : Descent
lost = record { ok = false; page = 0; used = 0; steps = no_steps }

unfoldable pub step_taken : List Step → ℕ → ℕ → ℕ → Visit → List Step
step_taken steps l n used v = set steps l (record { node = n; entry = v.entry; depth = v.depth; used = used })

-- "The entry's h bits, not H, are then used up." "Level-1 entries point to pages or null, higher ones to nodes one level down."
unfoldable pub descend : Format → List ℕ → Head → ℕ → ℕ → ℕ → ℕ → List Step → Descent
descend f s h k zero n used steps = record { ok = true; page = n; used = used; steps = steps }
descend f s h k (suc l) n used steps =
    elim (step_of f s h k (suc l) n used).ok [
      | true ↦
          descend f s h k l (step_of f s h k (suc l) n used).pointer (used + (step_of f s h k (suc l) n used).depth)
          (step_taken steps l n used (step_of f s h k (suc l) n used))
      | false ↦ lost
    ]

-- "The root's level is the head's."
unfoldable pub descent : Format → List ℕ → Head → ℕ → Descent
descent f s h k = descend f s h k h.levels h.root 0 no_steps

abbrev pub end_of : Descent → End
end_of d =
    record {
      ok = d.ok;
      node = (get_or d.steps 0 no_step).node;
      before = (get_or d.steps 0 no_step).used;
      page = d.page;
      used = d.used;
    }

pub record TerminalNode (h : Head) (s : List ℕ) (n : ℕ) : Type 0 where
  pub in_use : InUse h n
  pub rule : node_rule h s (node_start h n) 1 ≡ true

unfoldable pub lost_terminal : Terminal
lost_terminal = record { ok = false; node = 0; used = 0 }

-- find and next need the end of the path only
unfoldable pub terminal_from : Format → List ℕ → Head → ℕ → ℕ → ℕ → ℕ → Terminal
terminal_from f s h k zero n used =
    elim (sound_node f s h 1 n used) [ true ↦ record { ok = true; node = n; used = used } | false ↦ lost_terminal ]
terminal_from f s h k (suc l) n used =
    elim (step_of f s h k (suc (suc l)) n used).ok [
      | true ↦ terminal_from f s h k l (step_of f s h k (suc (suc l)) n used).pointer (used + (step_of f s h k (suc (suc l)) n used).depth)
      | false ↦ lost_terminal
    ]

unfoldable pub terminal : Format → List ℕ → Head → ℕ → Terminal
terminal f s h k = terminal_from f s h k (h.levels - 1) h.root 0

unfoldable pub own_visit : Format → List ℕ → Head → ℕ → ℕ → ℕ → Visit
own_visit f s h k n used = entry_visit s (node_start h n) (entry_number (width f) k used (depth_word s (node_start h n)))
