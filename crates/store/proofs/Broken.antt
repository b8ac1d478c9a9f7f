-- By one computation.
use mathlib.Core.Path.{refl}
use Rattle.lists.specs.Lists.{every}
use Rattle.store.specs.Format.{words}
use Rattle.store.specs.Head.{zeros, head_of, released_of, named, node_words, page_words, node_start, page_start}
use Rattle.store.specs.Released.{node_form, page_form, member, link_ok, chain_ok, nodes_ok, pages_ok}
use Rattle.store.specs.Broken.{chained, ChainsTested}

pub chains_tested : ChainsTested
unfolding every words zeros head_of released_of named node_words page_words node_start page_start node_form page_form member link_ok chain_ok nodes_ok pages_ok
    chained
chains_tested = (refl, refl, refl, refl, refl, refl, refl, refl)
