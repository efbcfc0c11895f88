-- To be believed. The packets under way as the code keeps them.
use Rattle.std.specs.Prelude.{List, [], ◌∷◌}
use Rattle.argo_ni.specs.declared.packet.Packet.{Packet}
use Rattle.argo_ni.specs.declared.under_way.Line.{Line}
use Rattle.argo_ni.specs.declared.under_way.Line.TheVariants.{Empty, One, Two, Three}

-- the packets in the order in which they were sent
abbrev pub listed : Line → List Packet
listed Empty = []
listed (One p) = p ∷ []
listed (Two p q) = p ∷ q ∷ []
listed (Three p q r) = p ∷ q ∷ r ∷ []
