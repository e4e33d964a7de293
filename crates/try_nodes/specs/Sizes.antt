-- The sizes of a node's deployment, whatever its role is.
use Rattle.std.specs.Prelude.{◌≡◌, List, All, IsTrue}
use Rattle.fw_base.specs.declared.params.Params.{Params}
use Rattle.fw_base.specs.Sizes.{accepted}
use Rattle.fw_record.specs.Records.{starts_fit}
use Rattle.fw_deal.specs.Deals.{PlainDeal}
use Rattle.try_nodes.specs.declared.node.AnyNode.{AnyNode}
use Rattle.try_nodes.specs.declared.node.AnyNode.TheVariants.{Agree, Exec, Filter, Client}

abbrev pub sizes_of : AnyNode → Params
sizes_of (Agree n) = n.params
sizes_of (Exec n) = n.params
sizes_of (Filter n) = n.params
sizes_of (Client n) = n.params

-- it is a node of a deal's deployment
abbrev pub IsOf : PlainDeal → AnyNode → Type 0
IsOf deal node = sizes_of node ≡ deal.origin.params

-- nodes of a deal
pub record AreOf (deal : PlainDeal) (nodes : List AnyNode) : Type 0 where
  pub sizes : IsTrue (accepted deal.origin.params)
  pub starts : IsTrue (starts_fit deal.origin.params.clients deal.starts)
  pub each : All (IsOf deal) nodes
