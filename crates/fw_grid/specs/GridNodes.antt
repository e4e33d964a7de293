-- The nodes of a grid.
use Rattle.fw_grid.specs.declared.grid.Grid.{Grid}
use Rattle.fw_grid.specs.Nodes.{Nodes}

abbrev pub nodes_of : {A E F C : Type 0} → Grid A E F C → Nodes A E F C
nodes_of g = record { agree = g.agree; exec = g.exec; filters = g.filters; clients = g.clients }
