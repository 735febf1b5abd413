-- All that the session computes with.
use Rattle.hex.specs.Hex.{encode_with}
use Rattle.jc_commit.specs.Keep.{goes_back, unlogged_addresses, writes_for, has_room_for}
use Rattle.jc_transient.specs.State.{ram_sizes}
use Rattle.jc_heap.specs.Heap.{heap_item_at, is_allocated, set_cell, add_object, add_transient, next_object, cell_address, end_address}
use Rattle.jc_heap.specs.Package.{record_size, package_record, push_package, addresses_of_package}
use Rattle.jc_environment.specs.Aid.{aid_of_cells}
use Rattle.jc_environment.specs.Registry.{applet_entry as applet_entry_in_registry, applet_with_aid}
use Rattle.jc_environment.specs.Pins.Checks.{pin_check}
use Rattle.jc_environment.specs.Pins.PinInit.{pin_init}
use Rattle.jc_environment.specs.Pins.{is_pin}
use Rattle.jc_environment.specs.Pins.Updates.{pin_update}
use Rattle.jc_platform.specs.Hierarchy.{superclass_of, interfaces_of, is_interface, is_instantiable, cells_of, holds_reference, implementation_of}
use Rattle.jc_platform.specs.Names.{packages, classes, objects_rows, exceptions_rows, utilities_rows, system_rows, aids_rows, pins_rows, applets_rows}
use Rattle.jc_platform.specs.Names.{apdus_rows, events_rows, engines_rows, keys_rows, key_interfaces_rows, ciphers_rows}
use Rattle.jc_platform.specs.Names.{rsa_keys_rows, ec_keys_rows, rsa_interfaces_rows, ec_interfaces_rows, key_pairs_rows}
use Rattle.jc_platform.specs.Platform.{aid_of, package_by_aid, package_by_number, class_by_token, class_by_word, method_by_token}
use Rattle.jc_platform.specs.Signatures.{parameters_of, answer_of, receiver_of as receiver_of_in_signatures, argument_cells, sets_receiver, minds_receiver}
use Rattle.jc_platform.specs.Signatures.{is_constructor}
use Rattle.jc_linker.specs.Classes.{package_in, class_in, is_class, superclass_in, lineage_from, interfaces_in, extends_within, implements, any_is}
use Rattle.jc_linker.specs.Classes.{is_below, is_shareable, size_of, is_instantiable_class, reference_cell}
use Rattle.jc_linker.specs.Completeness.{has_method, inherits_from, is_complete, are_complete_from}
use Rattle.jc_linker.specs.Imports.{version_of, import_number, import_numbers}
use Rattle.jc_linker.specs.Linking.{classes_behind, targets_from, link_result}
use Rattle.jc_linker.specs.Lookups.{target_at, code_at, aid_at as aid_at_in_lookups, statics_at as statics_at_in_lookups}
use Rattle.jc_linker.specs.Lookups.{applet_entry as applet_entry_in_lookups}
use Rattle.jc_linker.specs.Lookups.{entry_with_aid, package_with_aid}
use Rattle.jc_linker.specs.Methods.{first_decided, method_below, method_in, method_at as method_at_in_methods}
use Rattle.jc_linker.specs.Resolve.{class_index, class_with_token, import_by_token, class_at_offset, class_named as class_named_in_resolves, names_interface}
use Rattle.jc_linker.specs.Resolve.{field_target, virtual_target, super_target, export_of, foreign_method, resolution}
use Rattle.jc_frames.specs.Header.{header_in}
use Rattle.jc_memory.specs.Commands.{data_of}
use Rattle.jc_environment.specs.Objects.{first_objects, is_first, fixed_objects, own_place}
use Rattle.jc_world.specs.Arrays.{bytes_argument, elements_of}
use Rattle.jc_world.specs.Contexts.{package_of_applet, subject_of, situation_of, firewall_decision}
use Rattle.jc_world.specs.Instances.{instance_at}
use Rattle.jc_world.specs.Making.{new_on_top}
use Rattle.jc_world.specs.Objects.{object_at, storable_of}
use Rattle.jc_world.specs.Types.{class_named as class_named_in_types, is_a}
use Rattle.jc_instructions.specs.FieldNames.{field_named}
use Rattle.jc_instructions.specs.FieldOps.{field_instruction}
use Rattle.jc_instructions.specs.Fields.{field_cell, field_read, field_write, getfield, putfield}
use Rattle.jc_instructions.specs.ObjectCreation.{instantiable_class, new_instance}
use Rattle.jc_instructions.specs.Enter.{method_entry, first_frames_of}
use Rattle.jc_instructions.specs.Invoke.{header_of as header_of_in_invoke, arguments_of, receiver_of as receiver_of_in_invoke, invokevirtual, invokespecial}
use Rattle.jc_instructions.specs.Invoke.{invokestatic, method_selection}
use Rattle.jc_instructions.specs.MethodComponent.{method_component_of}
use Rattle.jc_instructions.specs.MethodReturn.{method_return}
use Rattle.jc_instructions.specs.Parameters.{fits}
use Rattle.jc_api_framework.specs.Apdu.{apdu_call}
use Rattle.jc_api_framework.specs.Apdu.Buffer.{buffer_of}
use Rattle.jc_api_framework.specs.Applet.{applet_register, applet_call}
use Rattle.jc_api_framework.specs.Applet.Register.{registration_package, aid_object_creation, registry_entry, registration}
use Rattle.jc_api_framework.specs.Objects.{object_call}
use Rattle.jc_api_framework.specs.OwnerPin.{owner_pin_init, pin_comparison, owner_pin_check, owner_pin_update, pin_call}
use Rattle.jc_api_framework.specs.System.{system_call}
use Rattle.jc_interp.specs.Calling.{native_invoke, invoke_instruction}
use Rattle.jc_interp.specs.Natives.{native_call}
use Rattle.jc_interp.specs.Run.{run_of}
use Rattle.jc_interp.specs.Step.{instruction_at, instruction_step, machine_step}
use Rattle.jc_dispatch.specs.AppletResult.{result_of_run}
use Rattle.jc_dispatch.specs.Buffer.{buffer_fill}
use Rattle.jc_dispatch.specs.Create.{creation_of, applet_named, applet_creation}
use Rattle.jc_dispatch.specs.Install.{applet_installation}
use Rattle.jc_dispatch.specs.Phase.{method_run, method_named, applet_method_call, close}
use Rattle.jc_dispatch.specs.Select.{applet_left, deselection, process_command, applet_selection}
use Rattle.jc_packages.specs.LoadEnd.{assembly_result}
use Rattle.jc_packages.specs.Load.{empty_load}
use Rattle.jc_packages.specs.PendingPackages.{linked_package, linked_components}
use Rattle.jc_packages.specs.Reading.{packages_of}
use Rattle.jc_packages.specs.RecordContents.{parts_of}
use Rattle.jc_card.specs.Answers.{manager_command, exchange}
use Rattle.jc_card.specs.Dispatching.{route, dispatch, create_applet}
use Rattle.jc_card.specs.Fixed.{object_number}
use Rattle.jc_cap.specs.Assembling.{required_components, checked_package, assembly_of}
use Rattle.jc_cap.specs.Component.{content_at, component_at}
use Rattle.jc_cap.specs.PackageReading.{contents_of}
use Rattle.jc_cap.specs.Texts.{with_size, with_component}
use Rattle.jc_cap.specs.ClassReading.{super_at, references_at, table_sizes_at, tables_at, class_at, interface_at, record_at as record_at_in_class_reading}
use Rattle.jc_cap.specs.ClassReading.{records_at, records_start, classes_of}
use Rattle.jc_cap.specs.ClassLists.{implemented_at}
use Rattle.jc_cap.specs.MethodReading.{active_at, handler_at, methods_of, header_of as header_of_in_method_reading}
use Rattle.jc_cap.specs.MethodReading.{method_at as method_at_in_method_reading}
use Rattle.jc_cap.specs.StaticReading.{element_type_at, static_array_at, static_arrays_at, value_counts_at, statics_at as statics_at_in_static_reading}
use Rattle.jc_cap.specs.Applets.{applet_at, applets_at}
use Rattle.jc_cap.specs.ClassRefs.{class_ref_at}
use Rattle.jc_cap.specs.Directory.{static_field_size_at, directory_at}
use Rattle.jc_cap.specs.Envelope.{info_at}
use Rattle.jc_cap.specs.Header.{version_at, flags_at, name_at, header_at}
use Rattle.jc_cap.specs.Imports.{imports_at}
use Rattle.jc_cap.specs.Packages.{package_at}
use Rattle.jc_cap.specs.Pool.{virtual_token_at, static_ref_at, entry_at as entry_at_in_pool, pool_at}
use Rattle.jc_cap.specs.Reading.{aid_at as aid_at_in_reading, many_at}

-- each definition unfolds what its line names, for lines that name it
unfoldable pub in_names_1 : Unit {0}
unfolding encode_with superclass_of interfaces_of is_interface is_instantiable cells_of holds_reference implementation_of packages classes objects_rows
in_names_1 = tt

unfoldable pub in_names_2 : Unit {0}
unfolding exceptions_rows utilities_rows system_rows aids_rows pins_rows applets_rows apdus_rows events_rows engines_rows aid_of package_by_aid
in_names_2 = tt

unfoldable pub in_names_3 : Unit {0}
unfolding package_by_number class_by_token class_by_word method_by_token parameters_of answer_of receiver_of_in_signatures argument_cells sets_receiver
in_names_3 = tt

unfoldable pub in_names_4 : Unit {0}
unfolding minds_receiver is_constructor keys_rows key_interfaces_rows ciphers_rows rsa_keys_rows ec_keys_rows rsa_interfaces_rows ec_interfaces_rows key_pairs_rows
in_names_4 = tt

unfoldable pub in_heap_1 : Unit {0}
unfolding goes_back unlogged_addresses writes_for has_room_for heap_item_at is_allocated set_cell add_object add_transient next_object cell_address
in_heap_1 = tt

unfoldable pub in_heap_2 : Unit {0}
unfolding end_address record_size package_record push_package addresses_of_package
in_heap_2 = tt

unfoldable pub in_memory : Unit {0}
unfolding ram_sizes aid_of_cells applet_entry_in_registry applet_with_aid pin_check pin_init is_pin pin_update
in_memory = tt

unfoldable pub in_linking_1 : Unit {0}
unfolding package_in class_in is_class superclass_in lineage_from interfaces_in extends_within implements any_is is_below is_shareable size_of
in_linking_1 = tt

unfoldable pub in_linking_2 : Unit {0}
unfolding is_instantiable_class reference_cell has_method inherits_from is_complete are_complete_from version_of import_number import_numbers
in_linking_2 = tt

unfoldable pub in_linking_3 : Unit {0}
unfolding classes_behind targets_from link_result target_at code_at aid_at_in_lookups statics_at_in_lookups applet_entry_in_lookups entry_with_aid
in_linking_3 = tt

unfoldable pub in_linking_4 : Unit {0}
unfolding package_with_aid first_decided method_below method_in method_at_in_methods class_index class_with_token import_by_token class_at_offset
in_linking_4 = tt

unfoldable pub in_linking_5 : Unit {0}
unfolding class_named_in_resolves names_interface field_target virtual_target super_target export_of foreign_method resolution
in_linking_5 = tt

unfoldable pub in_frames : Unit {0}
unfolding header_in first_objects is_first fixed_objects own_place
in_frames = tt

unfoldable pub in_world_1 : Unit {0}
unfolding bytes_argument elements_of package_of_applet subject_of situation_of firewall_decision instance_at new_on_top object_at storable_of
in_world_1 = tt

unfoldable pub in_world_2 : Unit {0}
unfolding class_named_in_types is_a
in_world_2 = tt

unfoldable pub in_instructions_1 : Unit {0}
unfolding field_named field_instruction field_cell field_read field_write getfield putfield instantiable_class new_instance method_entry first_frames_of
in_instructions_1 = tt

unfoldable pub in_instructions_2 : Unit {0}
unfolding header_of_in_invoke arguments_of receiver_of_in_invoke invokevirtual invokespecial invokestatic method_selection method_component_of
in_instructions_2 = tt

unfoldable pub in_instructions_3 : Unit {0}
unfolding method_return fits
in_instructions_3 = tt

unfoldable pub in_calls_1 : Unit {0}
unfolding apdu_call buffer_of applet_register applet_call registration_package aid_object_creation registry_entry registration object_call owner_pin_init
in_calls_1 = tt

unfoldable pub in_calls_2 : Unit {0}
unfolding pin_comparison owner_pin_check owner_pin_update pin_call system_call
in_calls_2 = tt

unfoldable pub in_machine : Unit {0}
unfolding native_invoke invoke_instruction native_call run_of instruction_at instruction_step machine_step
in_machine = tt

unfoldable pub in_applets_1 : Unit {0}
unfolding result_of_run buffer_fill creation_of applet_named applet_creation applet_installation method_run method_named applet_method_call close
in_applets_1 = tt

unfoldable pub in_applets_2 : Unit {0}
unfolding applet_left deselection process_command applet_selection
in_applets_2 = tt

unfoldable pub in_loads : Unit {0}
unfolding assembly_result empty_load linked_package linked_components packages_of parts_of
in_loads = tt

unfoldable pub in_card : Unit {0}
unfolding manager_command exchange route dispatch create_applet object_number data_of
in_card = tt

unfoldable pub in_components_1 : Unit {0}
unfolding required_components checked_package assembly_of content_at component_at contents_of with_size with_component super_at references_at
in_components_1 = tt

unfoldable pub in_components_2 : Unit {0}
unfolding table_sizes_at tables_at class_at interface_at record_at_in_class_reading records_at records_start classes_of implemented_at active_at handler_at
in_components_2 = tt

unfoldable pub in_components_3 : Unit {0}
unfolding methods_of header_of_in_method_reading method_at_in_method_reading element_type_at static_array_at static_arrays_at value_counts_at
in_components_3 = tt

unfoldable pub in_components_4 : Unit {0}
unfolding statics_at_in_static_reading applet_at applets_at class_ref_at static_field_size_at directory_at info_at version_at flags_at name_at header_at
in_components_4 = tt

unfoldable pub in_components_5 : Unit {0}
unfolding imports_at package_at virtual_token_at static_ref_at entry_at_in_pool pool_at aid_at_in_reading many_at
in_components_5 = tt

unfoldable pub several_1 : Unit {0}
unfolding in_names_1 in_names_2 in_names_3 in_names_4 in_heap_1 in_heap_2 in_memory in_linking_1 in_linking_2 in_linking_3 in_linking_4 in_linking_5
several_1 = tt

unfoldable pub several_2 : Unit {0}
unfolding in_frames in_world_1 in_world_2 in_instructions_1 in_instructions_2 in_instructions_3 in_calls_1 in_calls_2 in_machine in_applets_1 in_applets_2
several_2 = tt

unfoldable pub computing : Unit {0}
unfolding several_1 several_2 in_loads in_card in_components_1 in_components_2 in_components_3 in_components_4 in_components_5
computing = tt
