-- What a program's task reaches, its text mentions.
use Rattle.std.proofs.Common.{◌≡◌, ℕ, true, List, inl, inr}
use Rattle.std.specs.List.{Contains}
use Rattle.argo_ni.specs.declared.packet.Packet.{Packet}
use Rattle.slot_arbiter.specs.declared.place.Place.{Place}
use Rattle.shared_order.specs.SomeWords.{LoadsOnly, StoresOnly}
use Rattle.shared_order.proofs.Lists.{each_map}
use Rattle.c_tree.specs.Plain.{PlainItem}
use Rattle.c_mentions.specs.Mentions.{comm_array, shared_array, sends_to}
use Rattle.patmos_model.specs.Apart.{apart_at, own_operations, sendings_at}
use Rattle.patmos_model.specs.State.{Sending}
use Rattle.sp_tree.specs.Uses as tree
use Rattle.sp_tree.specs.Uses.{uses_of}
use Rattle.single_path.specs.Single.{single}
use Rattle.code_words.specs.May.{MayMake}
use Rattle.task_words.specs.Meant.{Names}
use Rattle.task_words.specs.Reach.{MayLoadWord, MayStoreWord, MaySendTo}
use Rattle.c_task.specs.Programs.{MayLoad, MayStore, Touches}
use Rattle.c_task.specs.Translation.{translation}
use Rattle.c_task.proofs.Alone.{mentioned, assigned}
use Rattle.c_task.proofs.Runs.{sent_in_text}

module _ (items : List PlainItem) (core : ℕ) where
  abbrev Named : tree.Use → Type 0
  Named = Contains (uses_of (single items))

  may_load : (word : ℕ) → MayLoadWord Named core word → MayLoad items core word
  may_load word (inl (low, reads)) = inl (low, mentioned items shared_array reads)
  may_load word (inr (k, (few, (is, reads)))) = inr ((k, (few, is)), mentioned items comm_array reads)

  may_store : (word : ℕ) → MayStoreWord Named core word → MayStore items core word
  may_store word (inl (low, writes)) = inl (low, assigned items shared_array writes)
  may_store word (inr (k, (few, (is, writes)))) = inr (k, (few, is))

pub touches : (items : List PlainItem) (place : Place) (input values : List ℕ) (cycles : ℕ)
    → Names (single items) place input values cycles
    → Touches items place (translation items).image input values cycles
touches items place input values cycles named =
    let own = own_operations place (translation items).image input values cycles in
    let may = MayMake (MayLoadWord (Named items place.core) place.core)
    (MayStoreWord (Named items place.core) place.core) (MaySendTo (Named items place.core)) in
    record {
      loads = each_map may (LoadsOnly (MayLoad items place.core)) (λ o m is. may_load items place.core o.act.word
          (m.0 is)) own named.operations;
      stores = each_map may (StoresOnly (MayStore items place.core)) (λ o m is. may_store items place.core o.act.word
          (m.1 is)) own named.operations;
      sendings = each_map (λ (s : Sending). Named items place.core (tree.sends_to s.target))
          (λ (s : Sending). sends_to s.target items ≡ true)
          (λ s is. sent_in_text items s.target is) (sendings_at place (translation items).image input values cycles)
          named.sendings;
      packets = each_map (λ (p : Packet). Named items place.core (tree.sends_to p.target))
          (λ (p : Packet). sends_to p.target items ≡ true)
          (λ p is. sent_in_text items p.target is) (apart_at place (translation items).image input values
          cycles).core.plain.interface.under_way named.packets;
    }
