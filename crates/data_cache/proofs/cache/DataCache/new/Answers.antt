use Rattle.std.proofs.Common.{◌<◌, Option, None, ap, arith}
use Rattle.std.proofs.lemmas.List.{get_or-replicate}
use Rattle.data_cache.specs.declared.cache.Line.{Line}
use Rattle.data_cache.specs.Accesses.{index_of}
use Rattle.data_cache.specs.Lines.{word_in}
use Rattle.data_cache.proofs.cache.DataCache.new.Goals as goal

pub returns : goal.returns
returns c = record {
  stands = λ address.
      let within : index_of address < 64 = omega arith in
      ap (λ (line : Option Line). word_in line address) (get_or-replicate 64 (index_of address) None None within);
}
