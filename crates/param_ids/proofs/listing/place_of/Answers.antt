use Rattle.param_ids.specs.contracts.ids.ParamIdOrd.TheImpl as id_impl
use Rattle.param_ids.specs.Order.{id_cmp}
use Rattle.param_ids.proofs.Derived.{id_same, search_same}
use Rattle.param_ids.proofs.listing.place_of.Goals as goal

pub returns-clause-position : goal.returns-clause-position
returns-clause-position c = search_same (id_impl.ghosts).cmp id_cmp c.args.id.now id_same c.args.ids.now c.binary_search.result c.binary_search.ensures.position
