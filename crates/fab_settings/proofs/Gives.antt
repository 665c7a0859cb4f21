-- An accepted bundle gives a setting.
use Rattle.std.proofs.Common.{◌≡◌, ◌↔◌, ℕ, List, Some}
use Rattle.fab_base.specs.declared.message.Message.{Message}
use Rattle.fab_base.specs.MessageSpelling.{IsReadAs}
use Rattle.fab_language.specs.Numbers.{resolved}
use Rattle.fab_rights.specs.declared.rights.Rights.{Rights}
use Rattle.fab_tree.specs.declared.start.Start.{Start}
use Rattle.fab_wire.specs.Reading.{read_message}
use Rattle.fab_wire.proofs.WholeLaws.{read_found, is_read}
use Rattle.fab_world.specs.Serial.{IsSetting}
use Rattle.fab_settings.specs.Settings.{IsAcceptedWith, setting_of}
use Rattle.fab_settings.proofs.Nodes.{apart, writers, holders}
use Rattle.fab_settings.proofs.Given.{fits, roots_ascend, roots_fit, roots_old}

pub gives_setting : (s : Start) (rights : Rights) → IsAcceptedWith s rights → IsSetting (setting_of (resolved s) rights)
gives_setting s rights a = record {
  workers = a.workers;
  stores = a.stores;
  apart = apart (resolved s) rights a.rights_are;
  writers = writers (resolved s) rights a.rights_are;
  holders = holders (resolved s) rights a.rights_are;
  requests = λ n. (fits s rights a n).few;
  roots_ascend = roots_ascend s rights a;
  roots_fit = roots_fit s rights a;
  roots_old = roots_old s rights a;
  read = reading;
}
  where
    reading : (bytes : List ℕ) (m : Message) → (read_message bytes ≡ Some m) ↔ IsReadAs bytes m
    reading bytes m = (λ e. let f = read_found bytes m e in record { short = f.0; spelled = (1, f.1, f.2) }, is_read bytes m)
