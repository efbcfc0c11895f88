use Rattle.std.proofs.Common.{rules}
use Rattle.method_cache.proofs.Suffix.{suffix, fitting, longest, resident_push}
use Rattle.method_cache.proofs.cache.residents_are_the_longest_suffix.Goals as goal

pub returns : goal.returns
returns c = record {
  suffix = suffix;
  fitting = λ misses. search (rules, fitting);
  longest = λ older later all. longest older later (search rules);
  further = resident_push;
}
