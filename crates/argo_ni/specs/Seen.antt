-- To be believed. What contracts see of an interface's fields.
use Rattle.argo_ni.specs.declared.ni.Ni.TheInside.{Inside}
use Rattle.argo_ni.specs.Interface.{Standing}

abbrev pub seen : Inside → Standing
seen a = record {
  interface = record {
    cores = a.cores;
    core = a.core;
    ports = a.ports;
    under_way = a.under_way;
    dropped = a.dropped;
  };
  from = a.from;
}
